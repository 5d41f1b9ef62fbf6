-- What the relation says of a line is what is read from the left, both ways.
use Rattle.std.proofs.Common.{◌≡◌, arith, ℕ, Bool, true, false, cond, ◌&&◌, ◌-◌, nat_eq, nat_le, List, [], ◌∷◌, ◌++◌, length, take, drop, codes, refl, sym, ap, ◌∙◌, subst, Option, Some, None}
use Rattle.std.proofs.lemmas.Bool.Decides.{nat_tests}
use Rattle.std.proofs.lemmas.Slice.Eq.{bytes_eq-Decides}
use Rattle.std.specs.Option.{option_map}
use Rattle.std.specs.Str.{bytes_eq}
use Rattle.mpc_values.specs.declared.owners.Level.{Level}
use Rattle.mpc_values.specs.declared.owners.Level.TheVariants as level
use Rattle.hls_pragma.specs.declared.directives.NameSpan.{NameSpan}
use Rattle.hls_pragma.specs.declared.directives.Pragma.{Pragma}
use Rattle.hls_pragma.specs.declared.directives.Pragma.TheVariants.{Scope, Single, Barrier, Foreign}
use Rattle.hls_pragma.specs.declared.items.Item.{Item}
use Rattle.hls_pragma.specs.declared.items.Item.TheVariants.{Word, Open, Comma, Close, Other}
use Rattle.hls_pragma.specs.Items.{items_of}
use Rattle.hls_pragma.specs.Front.{word_is, begins_hls, names_at, level_at, end_at, scope_of, closed_of, pragma_of, listed_at, directive_at, pragma_at}
use Rattle.hls_pragma.specs.Reads.{listed, AreNames, level_text, Lists, IsEnd, Reads}
use Rattle.hls_pragma.specs.Cuts.{Cut}
use Rattle.hls_pragma.proofs.CutSteps.{cut_is, cut_of}
use Rattle.hls_pragma.proofs.Lists.{if_true, if_false, bool_cases, map_some, names_are, names_listed}

-- a word with one text has no other
other_text : (line : List ℕ) (w : NameSpan) (a b : List ℕ) → word_is line w a ≡ true → bytes_eq a b ≡ false → word_is line w b ≡ false
other_text line w a b e f = bool_cases (λ x. nat_le w.start (length line) ≡ x → (x && nat_le w.len (length line - w.start) && bytes_eq (take w.len (drop w.start line)) a) ≡ true → (x && nat_le w.len (length line - w.start) && bytes_eq (take w.len (drop w.start line)) b) ≡ false) (nat_le w.start (length line))
    (λ _ _ g. bool_cases (λ x. nat_le w.len (length line - w.start) ≡ x → (x && bytes_eq (take w.len (drop w.start line)) a) ≡ true → (x && bytes_eq (take w.len (drop w.start line)) b) ≡ false) (nat_le w.len (length line - w.start))
    (λ _ _ k. subst (λ t. bytes_eq t b ≡ false) (sym ((bytes_eq-Decides (take w.len (drop w.start line)) a).0 k)) f)
    (λ _ _ k. refl) refl g)
    (λ _ _ g. refl) refl e

-- each level's word is read as that level
level_read : (line : List ℕ) (w : NameSpan) (l : Level) → word_is line w (level_text l) ≡ true → level_at line w ≡ Some l
level_read line w level.Core e = if_true _ _ _ e
level_read line w level.L1 e = if_false _ _ _ (other_text line w (codes "l1") (codes "core") e refl) ∙ if_true _ _ _ e
level_read line w level.L2 e = if_false _ _ _ (other_text line w (codes "l2") (codes "core") e refl) ∙ (if_false _ _ _ (other_text line w (codes "l2") (codes "l1") e refl) ∙ if_true _ _ _ e)
level_read line w level.L3 e = if_false _ _ _ (other_text line w (codes "l3") (codes "core") e refl) ∙ (if_false _ _ _ (other_text line w (codes "l3") (codes "l1") e refl) ∙ (if_false _ _ _ (other_text line w (codes "l3") (codes "l2") e refl) ∙ if_true _ _ _ e))
level_read line w level.Numa e = if_false _ _ _ (other_text line w (codes "numa") (codes "core") e refl) ∙ (if_false _ _ _ (other_text line w (codes "numa") (codes "l1") e refl) ∙ (if_false _ _ _ (other_text line w (codes "numa") (codes "l2") e refl) ∙ (if_false _ _ _ (other_text line w (codes "numa") (codes "l3") e refl) ∙ if_true _ _ _ e)))
level_read line w level.Node e = if_false _ _ _ (other_text line w (codes "node") (codes "core") e refl) ∙ (if_false _ _ _ (other_text line w (codes "node") (codes "l1") e refl) ∙ (if_false _ _ _ (other_text line w (codes "node") (codes "l2") e refl) ∙ (if_false _ _ _ (other_text line w (codes "node") (codes "l3") e refl) ∙ (if_false _ _ _ (other_text line w (codes "node") (codes "numa") e refl) ∙ if_true _ _ _ e))))

some_of : {A : Type 0} (x y : A) → Some x ≡ Some y → x ≡ y
some_of x y e = cc

first_level : (b : Bool) (m : Level) (rest : Option Level) (l : Level) (P : Level → Type 0) → (b ≡ true → P m) → (rest ≡ Some l → P l) → cond b (Some m) rest ≡ Some l → P l
first_level true m rest l P f g e = subst P (some_of m l e) (f refl)
first_level false m rest l P f g e = g e

no_level : (l : Level) (P : Level → Type 0) → ◌≡◌ {A = Option Level} None (Some l) → P l
no_level l P e = cc

-- what is read as a level is that level's word
read_level : (line : List ℕ) (w : NameSpan) (l : Level) → level_at line w ≡ Some l → word_is line w (level_text l) ≡ true
read_level line w l e =
    let P : Level → Type 0 = λ l. word_is line w (level_text l) ≡ true in
    first_level (word_is line w (codes "core")) level.Core _ l P (λ h. h)
    (first_level (word_is line w (codes "l1")) level.L1 _ l P (λ h. h)
    (first_level (word_is line w (codes "l2")) level.L2 _ l P (λ h. h)
    (first_level (word_is line w (codes "l3")) level.L3 _ l P (λ h. h)
    (first_level (word_is line w (codes "numa")) level.Numa _ l P (λ h. h)
    (first_level (word_is line w (codes "node")) level.Node None l P (λ h. h)
    (λ g. no_level l P g)))))) e

-- a level's word is neither of the two others
no_single : (l : Level) → bytes_eq (level_text l) (codes "single") ≡ false
no_single level.Core = refl
no_single level.L1 = refl
no_single level.L2 = refl
no_single level.L3 = refl
no_single level.Numa = refl
no_single level.Node = refl

no_barrier : (l : Level) → bytes_eq (level_text l) (codes "barrier") ≡ false
no_barrier level.Core = refl
no_barrier level.L1 = refl
no_barrier level.L2 = refl
no_barrier level.L3 = refl
no_barrier level.Numa = refl
no_barrier level.Node = refl

-- what stands behind hls and a word
from_lists : (line word : List ℕ) (names : List NameSpan) (rest : List Item) (h : Lists line word names rest) → pragma_at line (items_of 0 0 0 line) ≡ pragma_of line h.second names rest
from_lists line word names rest h =
    ap (pragma_at line) (sym (cut_is h.items 0))
    ∙ (if_true _ _ _ h.hls
    ∙ ap (listed_at line h.second) (names_are line names rest h.are_names))

end_read : (line : List ℕ) (nowait : Bool) (rest : List Item) → IsEnd line nowait rest → end_at line rest ≡ Some nowait
end_read line false rest e = ap (end_at line) e
end_read line true rest e = ap (end_at line) e.1 ∙ if_true _ _ _ e.2

pub read_as : (line : List ℕ) (p : Pragma) → Reads line p → pragma_at line (items_of 0 0 0 line) ≡ Some p
read_as line (Scope level names) h =
    from_lists line (level_text level) names [] h
    ∙ (if_false _ _ _ (other_text line h.second (level_text level) (codes "single") h.named (no_single level))
    ∙ (if_false _ _ _ (other_text line h.second (level_text level) (codes "barrier") h.named (no_barrier level))
    ∙ ap (option_map (scope_of names)) (level_read line h.second level h.named)))
read_as line (Single names nowait) h =
    from_lists line (codes "single") names h.0 h.1
    ∙ (if_true _ _ _ h.1.named ∙ ap (option_map (Single names)) (end_read line nowait h.0 h.2))
read_as line (Barrier names) h =
    from_lists line (codes "barrier") names [] h
    ∙ (if_false _ _ _ (other_text line h.second (codes "barrier") (codes "single") h.named refl) ∙ if_true _ _ _ h.named)
read_as line Foreign h = ap (pragma_at line) (sym (cut_is h.1 0)) ∙ if_false _ _ _ h.2

pub one_reading : (line : List ℕ) (p q : Pragma) → Reads line p → Reads line q → q ≡ p
one_reading line p q h k = some_of q p (sym (read_as line q k) ∙ read_as line p h)

end_said : (line : List ℕ) (rest : List Item) (nowait : Bool) → end_at line rest ≡ Some nowait → IsEnd line nowait rest
end_said line [] false e = refl
end_said line [] true e = cc
end_said line (Word w ∷ []) false e = bool_cases (λ b. ◌≡◌ {A = Option Bool} (cond {A = Option Bool} b (Some true) None) (Some false) → IsEnd line false (Word w ∷ [])) (word_is line w (codes "nowait")) (λ _ g. cc) (λ _ g. cc) e
end_said line (Word w ∷ []) true e = bool_cases (λ b. word_is line w (codes "nowait") ≡ b → ◌≡◌ {A = Option Bool} (cond {A = Option Bool} b (Some true) None) (Some true) → IsEnd line true (Word w ∷ [])) (word_is line w (codes "nowait")) (λ _ b g. (w, refl, b)) (λ _ b g. cc) refl e
end_said line (Open ∷ []) nowait e = cc
end_said line (Comma ∷ []) nowait e = cc
end_said line (Close ∷ []) nowait e = cc
end_said line (Other ∷ []) nowait e = cc
end_said line (i ∷ j ∷ rest) nowait e = cc

-- hls, a word, names and what stands behind them, in the line's items
record Headed (line : List ℕ) (w : NameSpan) (names : List NameSpan) (behind : List Item) : Type 0 where
  pub first : NameSpan
  pub items : Cut 0 line (Word first ∷ Word w ∷ Open ∷ (listed names ++ Close ∷ behind))
  pub hls : word_is line first (codes "hls") ≡ true
  pub are_names : AreNames line names

lists_it : (line word : List ℕ) (w : NameSpan) (names : List NameSpan) (behind : List Item) → Headed line w names behind → word_is line w word ≡ true → Lists line word names behind
lists_it line word w names behind h e = record { first = h.first; second = w; items = h.items; hls = h.hls; named = e; are_names = h.are_names }

reads_closed : (line : List ℕ) (w : NameSpan) (names : List NameSpan) (p : Pragma) → Headed line w names [] → closed_of line w names ≡ Some p → Reads line p
reads_closed line w names p h e = bool_cases (λ b. word_is line w (codes "barrier") ≡ b → cond b (Some (Barrier names)) (option_map (scope_of names) (level_at line w)) ≡ Some p → Reads line p) (word_is line w (codes "barrier"))
    (λ _ b g. subst (Reads line) (some_of (Barrier names) p g) (lists_it line (codes "barrier") w names [] h b))
    (λ _ b g.
    let m = map_some (scope_of names) (level_at line w) p g in
    subst (Reads line) m.2 (lists_it line (level_text m.0) w names [] h (read_level line w m.0 m.1))) refl e

none_some : (p : Pragma) → ◌≡◌ {A = Option Pragma} None (Some p) → ⊥
none_some p e = cc

not_empty : (i : Item) (rest : List Item) → nat_eq (length (i ∷ rest)) 0 ≡ false
not_empty i rest = grind (arith, nat_tests)

reads_behind : (line : List ℕ) (w : NameSpan) (names : List NameSpan) (behind : List Item) (p : Pragma) → Headed line w names behind → cond (nat_eq (length behind) 0) (closed_of line w names) None ≡ Some p → Reads line p
reads_behind line w names [] p h e = reads_closed line w names p h e
reads_behind line w names (i ∷ behind) p h e = absurd (none_some p (sym (if_false (nat_eq (length (i ∷ behind)) 0) (closed_of line w names) None (not_empty i behind)) ∙ e))

reads_pragma : (line : List ℕ) (w : NameSpan) (names : List NameSpan) (behind : List Item) (p : Pragma) → Headed line w names behind → pragma_of line w names behind ≡ Some p → Reads line p
reads_pragma line w names behind p h e = bool_cases (λ b. word_is line w (codes "single") ≡ b → cond b (option_map (Single names) (end_at line behind)) (cond (nat_eq (length behind) 0) (closed_of line w names) None) ≡ Some p → Reads line p) (word_is line w (codes "single"))
    (λ _ b g.
    let m = map_some (Single names) (end_at line behind) p g in
    subst (Reads line) m.2 (behind, lists_it line (codes "single") w names behind h b, end_said line behind m.0 m.1))
    (λ _ b g. reads_behind line w names behind p h g) refl e

reads_listed : (line : List ℕ) (h w : NameSpan) (rest : List Item) (p : Pragma) → Cut 0 line (Word h ∷ Word w ∷ Open ∷ rest) → word_is line h (codes "hls") ≡ true → (o : Option (List NameSpan × List Item)) → names_at line rest ≡ o → listed_at line w o ≡ Some p → Reads line p
reads_listed line h w rest p e b None f g = cc
reads_listed line h w rest p e b (Some q) f g =
    let l = names_listed line rest q.0 q.1 f in
    reads_pragma line w q.0 q.1 p (record { first = h; items = subst (λ r. Cut 0 line (Word h ∷ Word w ∷ Open ∷ r)) l.is e; hls = b; are_names = l.names }) g

reads_directive : (line : List ℕ) (items : List Item) (p : Pragma) → Cut 0 line items → begins_hls line items ≡ true → directive_at line items ≡ Some p → Reads line p
reads_directive line [] p e b g = cc
reads_directive line (h ∷ []) p e b g = cc
reads_directive line (h ∷ i ∷ []) p e b g = cc
reads_directive line (Word h ∷ Word w ∷ Open ∷ rest) p e b g = reads_listed line h w rest p e b (names_at line rest) refl g
reads_directive line (Word h ∷ Word w ∷ Word j ∷ rest) p e b g = cc
reads_directive line (Word h ∷ Word w ∷ Comma ∷ rest) p e b g = cc
reads_directive line (Word h ∷ Word w ∷ Close ∷ rest) p e b g = cc
reads_directive line (Word h ∷ Word w ∷ Other ∷ rest) p e b g = cc
reads_directive line (Word h ∷ Open ∷ j ∷ rest) p e b g = cc
reads_directive line (Word h ∷ Comma ∷ j ∷ rest) p e b g = cc
reads_directive line (Word h ∷ Close ∷ j ∷ rest) p e b g = cc
reads_directive line (Word h ∷ Other ∷ j ∷ rest) p e b g = cc
reads_directive line (Open ∷ i ∷ j ∷ rest) p e b g = cc
reads_directive line (Comma ∷ i ∷ j ∷ rest) p e b g = cc
reads_directive line (Close ∷ i ∷ j ∷ rest) p e b g = cc
reads_directive line (Other ∷ i ∷ j ∷ rest) p e b g = cc

-- what is worked out is what the line is cut into
cut_here : (line : List ℕ) (items : List Item) → items ≡ items_of 0 0 0 line → Cut 0 line items
cut_here line items e = subst (Cut 0 line) (sym e) (cut_of line)

pub reads_it : (line : List ℕ) (items : List Item) (p : Pragma) → items ≡ items_of 0 0 0 line → begins_hls line items ≡ true → directive_at line items ≡ Some p → Reads line p
reads_it line items p e b g = reads_directive line items p (cut_here line items e) b g

-- where nothing is read the relation says nothing
pub no_reading : (line : List ℕ) (items : List Item) (p : Pragma) → items ≡ items_of 0 0 0 line → begins_hls line items ≡ true → directive_at line items ≡ None → Reads line p → ⊥
no_reading line items p e b g h =
    let f : pragma_at line items ≡ None = if_true _ _ _ b ∙ g in
    let k : pragma_at line items ≡ Some p = ap (pragma_at line) e ∙ read_as line p h in cc

pub foreign_it : (line : List ℕ) (items : List Item) → items ≡ items_of 0 0 0 line → begins_hls line items ≡ false → Reads line Foreign
foreign_it line items e b = (items, cut_here line items e, b)
