-- The list goes on, as the grammar has it, exactly where it is a front that keeps the bound of the expressions.
use Rattle.std.proofs.Common.{◌≡◌, ℕ, ◌≤◌, arith, List, [], ◌∷◌, ◌++◌, length, refl, sym, ap, ◌∙◌, subst}
use Rattle.std.proofs.lemmas.List.{append-nil}
use Rattle.c_tree.specs.Syntax as x
use Rattle.c_parse.specs.Symbols.{Sym}
use Rattle.c_parse.specs.Reading.{Read, Got, Fails}
use Rattle.c_parse.specs.Parsed.{KeepsBound, GoesOn, EndsAt}
use Rattle.c_parse.proofs.Exact.{left}
use Rattle.c_parse.proofs.SourcesRead.{items_read, read_spelt, spelt_keeps, fails_keeps, keeps_left, StopsAt}
use Rattle.c_parse.proofs.Unbounded.{keeps_viable}

pub keeps_goes : (ss : List Sym) → KeepsBound ss → GoesOn ss
keeps_goes ss h = (keeps_viable ss h, λ long. long.1 h)

pub goes_keeps : (ss : List Sym) → GoesOn ss → KeepsBound ss
goes_keeps ss h = by (items_read ss) refl
  where
    by : (o : Read (List x.Item)) → items_read ss ≡ o → KeepsBound ss
    by (Got t rest) e = spelt_keeps ss t (read_spelt ss t rest e).1
    by (Fails []) e = let u = fails_keeps ss [] e in subst KeepsBound (sym (u.is ∙ append-nil u.read)) u.holds
    by (Fails (c ∷ x)) e = absurd (h.1 (h.0, λ keeps. omega (arith, ap left e, ap (λ l. left (items_read l)) (append-nil ss), keeps_left ss [] keeps)))

pub ends_stops : (ss before : List Sym) (s : Sym) → EndsAt ss before s → StopsAt ss before s
ends_stops ss before s h = record {
  behind = h.behind;
  is = h.is;
  keeps = λ front more q. goes_keeps front (h.goes_on front more q);
  over = λ keeps. (h.over (keeps_viable (before ++ s ∷ []) keeps)).1 keeps;
}

pub stops_ends : (ss before : List Sym) (s : Sym) → StopsAt ss before s → EndsAt ss before s
stops_ends ss before s h = record {
  behind = h.behind;
  is = h.is;
  goes_on = λ front more q. keeps_goes front (h.keeps front more q);
  over = λ viable. (viable, h.over);
}
