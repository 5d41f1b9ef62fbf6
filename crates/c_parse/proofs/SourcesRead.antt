-- A source is read exactly: what is read is spelt, what is spelt is read, and reading fails at the symbol with which the source keeps the bound of the expressions no more.
use Rattle.std.proofs.Common.{◌≡◌, ℕ, zero, suc, ◌≤◌, arith, true, false, List, [], ◌∷◌, ◌++◌, length, refl, sym, ap, ◌∙◌, subst, append_assoc, length-append}
use Rattle.std.proofs.lemmas.List.{append-nil}
use Rattle.c_tree.specs.Syntax as x
use Rattle.c_parse.specs.Symbols.{Sym}
use Rattle.c_parse.specs.Reading.{Read, Got, Fails, Reader, repeat_from, repeat}
use Rattle.c_parse.specs.Sources as so
use Rattle.c_parse.specs.Sources.{is_over}
use Rattle.c_parse.specs.SourceGrammar as sc
use Rattle.c_parse.specs.Grammar as gr
use Rattle.c_parse.specs.Parsed.{KeepsBound, NoneRefused}
use Rattle.c_parse.proofs.Sets.{code, is_in}
use Rattle.c_parse.proofs.Exact.{Ends, left, then_got, Overlap, within_first, over_first, overlap}
use Rattle.c_parse.proofs.Repeats as rp
use Rattle.c_parse.proofs.ItemsRead.{ITEM, more_items_exact}

-- the items of a source
abbrev pub items_read : Reader (List x.Item)
items_read = repeat is_over so.one_more_item []

begun : (c : Sym) (ts : List Sym) → is_in ITEM (code c.class) ≡ true → is_over (c ∷ ts) ≡ false
begun c ts e = refl

over_is : (ts : List Sym) → is_over ts ≡ true → ts ≡ []
over_is [] e = refl
over_is (c ∷ ts) e = cc

shorter : (found : List x.Item) (c : Sym) (ts : List Sym) (t : List x.Item) (rest : List Sym) (n : ℕ) → length (c ∷ ts) ≤ suc n → Ends (c ∷ ts) rest (λ w. ((sc.one_more_item gr.expression) found).spells w t) → length rest ≤ n
shorter found c ts t rest n le u = by u.read u.is u.holds
  where
    by : (w : List Sym) → c ∷ ts ≡ w ++ rest → ((sc.one_more_item gr.expression) found).spells w t → length rest ≤ n
    by [] e h = absurd ((more_items_exact found).fills refl t h)
    by (d ∷ w) e h = omega (arith, ap length e, length-append w rest)

-- the last symbol of a list, by its end
last_of : (read before : List Sym) (c d : Sym) (m x behind : List Sym) → before ++ c ∷ [] ≡ read ++ d ∷ m → x ≡ (d ∷ m) ++ behind → length x ≤ length (c ∷ behind) → x ≡ c ∷ behind
last_of read before c d [] x behind q z le = z ∙ ap (λ s. s ∷ behind) (same_last before read c d q)
  where
    same_last : (a b : List Sym) (c d : Sym) → a ++ c ∷ [] ≡ b ++ d ∷ [] → d ≡ c
    same_last [] [] c d e = cc
    same_last [] (y ∷ []) c d e = cc
    same_last [] (y ∷ z ∷ b) c d e = cc
    same_last (y ∷ []) [] c d e = cc
    same_last (y ∷ z ∷ a) [] c d e = cc
    same_last (y ∷ a) (z ∷ b) c d e = same_last a b c d (let k : a ++ c ∷ [] ≡ b ++ d ∷ [] = cc in k)
last_of read before c d (f ∷ m) x behind q z le = absurd (omega (arith, ap length z, length-append m behind))

-- reading ends at the end of the source
to_end : (n : ℕ) (found : List x.Item) (ts : List Sym) (t : List x.Item) (rest : List Sym) → length ts ≤ n → repeat_from is_over so.one_more_item n found ts ≡ Got t rest → rest ≡ []
unfolding repeat_from
to_end zero found [] t rest le e = let z : [] ≡ rest = cc in sym z
to_end zero found (c ∷ ts) t rest le e = absurd (omega arith)
to_end (suc n) found [] t rest le e = let z : [] ≡ rest = cc in sym z
to_end (suc n) found (c ∷ ts) t rest le e =
    let m = then_got (so.one_more_item found (c ∷ ts)) (λ t rest. repeat_from is_over so.one_more_item n t rest) t rest e in
    to_end n m.0 m.1 t rest (shorter found c ts m.0 m.1 n le ((more_items_exact found).got (c ∷ ts) m.0 m.1 m.2)) m.3

pub read_spelt : (ts : List Sym) (t : List x.Item) (rest : List Sym) → items_read ts ≡ Got t rest → (rest ≡ []) × (sc.unit gr.expression).spells ts t
unfolding sc.unit
read_spelt ts t rest e =
    let z = to_end (length ts) [] ts t rest (omega arith) e in
    let u = rp.loop_got (sc.one_more_item gr.expression) so.one_more_item is_over ITEM [] more_items_exact begun refl (length ts) [] ts t rest e in
    let same : ts ≡ u.read = u.is ∙ (ap (λ l. u.read ++ l) z ∙ append-nil u.read) in
    (z, subst (λ w. (sc.unit gr.expression).spells w t) (sym same) u.holds)

pub spelt_read : (ts : List Sym) (t : List x.Item) → (sc.unit gr.expression).spells ts t → items_read ts ≡ Got t []
unfolding sc.unit
spelt_read ts t h =
    ap items_read (sym (append-nil ts))
    ∙ rp.loop_complete (sc.one_more_item gr.expression) so.one_more_item is_over ITEM [] more_items_exact begun refl h [] tt refl (length (ts ++ [])) (omega arith)

pub fails_keeps : (ts x : List Sym) → items_read ts ≡ Fails x → Ends ts x KeepsBound
unfolding sc.unit KeepsBound
fails_keeps ts x e = rp.loop_fails (sc.one_more_item gr.expression) so.one_more_item is_over ITEM [] more_items_exact begun refl (length ts) [] ts x e

pub keeps_left : (f rest : List Sym) → KeepsBound f → left (items_read (f ++ rest)) ≤ length rest
unfolding sc.unit KeepsBound
keeps_left f rest h = rp.loop_through (sc.one_more_item gr.expression) so.one_more_item is_over ITEM [] more_items_exact begun refl h rest (length (f ++ rest)) (omega arith)

pub keeps_front : (u v : List Sym) → KeepsBound (u ++ v) → KeepsBound u
unfolding sc.unit KeepsBound
keeps_front u v h = rp.front_closed (sc.one_more_item gr.expression) so.one_more_item is_over ITEM [] more_items_exact begun refl h u v refl

pub keeps_clean : (w : List Sym) → KeepsBound w → NoneRefused w
unfolding sc.unit KeepsBound
keeps_clean w h = rp.front_clean (sc.one_more_item gr.expression) so.one_more_item is_over ITEM [] more_items_exact begun refl h

pub spelt_keeps : (w : List Sym) (t : List x.Item) → (sc.unit gr.expression).spells w t → KeepsBound w
unfolding sc.unit KeepsBound
spelt_keeps w t h = rp.steps_whole (sc.one_more_item gr.expression) so.one_more_item is_over ITEM [] more_items_exact begun refl h

-- ---- where reading fails

-- the symbols keep the bound up to this one, and not with it
pub record StopsAt (symbols before : List Sym) (s : Sym) : Type 0 where
  pub behind : List Sym
  pub is : symbols ≡ before ++ s ∷ behind
  pub keeps : (front more : List Sym) → before ≡ front ++ more → KeepsBound front
  pub over : KeepsBound (before ++ s ∷ []) → ⊥

-- the symbol at which reading fails ends what keeps the bound
pub fails_stops : (ts : List Sym) (c : Sym) (x : List Sym) → items_read ts ≡ Fails (c ∷ x) → (before : List Sym) × StopsAt ts before c
fails_stops ts c x e =
    let u = fails_keeps ts (c ∷ x) e in (
      u.read,
      record {
        behind = x;
        is = u.is;
        keeps = λ front more q. keeps_front front more (subst KeepsBound q u.holds);
        over = λ h. (let le = keeps_left (u.read ++ c ∷ []) x h in
            let same : (u.read ++ c ∷ []) ++ x ≡ ts = append_assoc u.read (c ∷ []) x ∙ sym u.is in
            omega (arith, ap (λ l. left (items_read l)) same, ap left e));
      },
    )

-- and what ends it is where reading fails
pub stops_fails : (ts before : List Sym) (c : Sym) (h : StopsAt ts before c) → items_read ts ≡ Fails (c ∷ h.behind)
stops_fails ts before c h = by (items_read ts) refl
  where
    whole : KeepsBound before
    whole = h.keeps before [] (sym (append-nil before))

    room : left (items_read ts) ≤ length (c ∷ h.behind)
    room = subst (λ l. left (items_read l) ≤ length (c ∷ h.behind)) (sym h.is) (keeps_left before (c ∷ h.behind) whole)

    split : ts ≡ (before ++ c ∷ []) ++ h.behind
    split = h.is ∙ sym (append_assoc before (c ∷ []) h.behind)

    no_more : (m v : List Sym) → KeepsBound ((before ++ c ∷ []) ++ m) → ⊥
    no_more m v k = h.over (keeps_front (before ++ c ∷ []) m k)

    same_cut : (read x : List Sym) → ts ≡ read ++ x → KeepsBound read → length x ≤ length (c ∷ h.behind) → Overlap (before ++ c ∷ []) h.behind read x → x ≡ c ∷ h.behind
    same_cut read x e k le (within_first m q) = absurd (no_more m x (subst KeepsBound q k))
    same_cut read x e k le (over_first [] q z) = absurd (h.over (subst KeepsBound (sym (append-nil read) ∙ sym q) k))
    same_cut read x e k le (over_first (d ∷ m) q z) = at_last read d m x q z le
      where
        at_last : (read : List Sym) (d : Sym) (m x : List Sym) → before ++ c ∷ [] ≡ read ++ d ∷ m → x ≡ (d ∷ m) ++ h.behind → length x ≤ length (c ∷ h.behind) → x ≡ c ∷ h.behind
        at_last read d m x q z le = last_of read before c d m x h.behind q z le

    by : (o : Read (List x.Item)) → items_read ts ≡ o → items_read ts ≡ Fails (c ∷ h.behind)
    by (Got t rest) e = (let k = read_spelt ts t rest e in absurd (h.over (keeps_front (before ++ c ∷ []) h.behind (subst KeepsBound split (spelt_keeps ts t k.1)))))
    by (Fails x) e = (let u = fails_keeps ts x e in e ∙ ap Fails (same_cut u.read x u.is u.holds (omega (arith, ap left e, room)) (overlap (before ++ c ∷ []) h.behind u.read x (sym split ∙ u.is))))
