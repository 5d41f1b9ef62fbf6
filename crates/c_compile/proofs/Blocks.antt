-- The items of a block, whose code is made from the last to the first.
use Rattle.std.proofs.Common.{◌≡◌, ℕ, suc, ◌+◌, ◌-◌, ◌<◌, ◌≤◌, false, List, [], ◌∷◌, ◌++◌, length, refl, sym, ap, ◌∙◌, subst, arith, append_assoc, length-append, reverse, drop, take, get_or, Vec, Global}
use Rattle.std.proofs.lemmas.List.{append-nil, reverse-append, take_more, drop-append-le}
use Rattle.std.proofs.Math.Seq.{drop-cons, drop-length, take-length}
use Rattle.c_tree.specs.declared.program.Stmt.{Stmt}
use Rattle.c_tree.specs.declared.program.Stmt.TheVariants.{Block}
use Rattle.c_tree.proofs.ProgramRows.{block_is}
use Rattle.c_tree.specs.Programs as p
use Rattle.c_tree.specs.ProgramOf.{stmt_of, stmts_of}
use Rattle.c_code.specs.declared.instr.Instr.{Instr}
use Rattle.c_code.specs.declared.instr.Instr.TheVariants as i
use Rattle.c_compile.specs.Compiled.{Place, before, inside, body_of, item_code, stmt_code, items_code, loop_code, do_code, no_ending}
use Rattle.c_compile.specs.Standing.{Standing, Fits, place_of, with_opened, declared, is_local, closing, opened_place}

-- what an item declares comes before what is declared behind it
first_declared : (x : p.Stmt) (rest : p.Stmts) → declared (p.Then x rest) ≡ declared (p.Then x p.Done) ++ declared rest
first_declared (p.Eval line value) rest = refl
first_declared (p.Unset slot) rest = refl
first_declared (p.New line slot words) rest = refl
first_declared (p.Block items end) rest = refl
first_declared (p.If line test body other) rest = refl
first_declared (p.While line test body) rest = refl
first_declared (p.DoWhile line body test) rest = refl
first_declared (p.For line test step body) rest = refl
first_declared (p.Return line value) rest = refl
first_declared (p.Break line) rest = refl
first_declared (p.Continue line) rest = refl
first_declared (p.Single line construct nowait body) rest = refl
first_declared (p.Barrier line construct) rest = refl

last_declared : (xs : List Stmt) (x : Stmt) → declared (stmts_of (xs ++ x ∷ [])) ≡ declared (stmts_of xs) ++ declared (p.Then (stmt_of x) p.Done)
last_declared [] x = refl
last_declared (y ∷ xs) x =
    first_declared (stmt_of y) (stmts_of (xs ++ x ∷ []))
    ∙ ap (λ l. declared (p.Then (stmt_of y) p.Done) ++ l) (last_declared xs x)
    ∙ sym (append_assoc (declared (p.Then (stmt_of y) p.Done)) (declared (stmts_of xs)) (declared (p.Then (stmt_of x) p.Done)))
    ∙ ap (λ l. l ++ declared (p.Then (stmt_of x) p.Done)) (sym (first_declared (stmt_of y) (stmts_of xs)))

-- an item that declares no local in memory
abbrev Plain : p.Stmt → Type 0
Plain x = (declared (p.Then x p.Done) ≡ []) × ((place : Place) (end : ℕ) (alone rest : Place → List Instr) → item_code place end x alone rest ≡ alone (before (length (rest place)) place) ++ rest place)

plain_item : (x : p.Stmt) → is_local x ≡ false → Plain x
plain_item (p.Eval line value) h = (refl, λ place end alone rest. refl)
plain_item (p.Unset slot) h = (refl, λ place end alone rest. refl)
plain_item (p.New line slot words) h = absurd (cc h)
plain_item (p.Block items end') h = (refl, λ place end alone rest. refl)
plain_item (p.If line test body other) h = (refl, λ place end alone rest. refl)
plain_item (p.While line test body) h = (refl, λ place end alone rest. refl)
plain_item (p.DoWhile line body test) h = (refl, λ place end alone rest. refl)
plain_item (p.For line test step body) h = (refl, λ place end alone rest. refl)
plain_item (p.Return line value) h = (refl, λ place end alone rest. refl)
plain_item (p.Break line) h = (refl, λ place end alone rest. refl)
plain_item (p.Continue line) h = (refl, λ place end alone rest. refl)
plain_item (p.Single line construct nowait body) h = (refl, λ place end alone rest. refl)
plain_item (p.Barrier line construct) h = (refl, λ place end alone rest. refl)

-- nothing declared: no drops and no local opened
pub none_declared : (x : p.Stmt) → is_local x ≡ false → declared (p.Then x p.Done) ≡ []
none_declared x h = (plain_item x h).0

pub none_closed : (x : p.Stmt) (end : ℕ) (out : List Instr) → is_local x ≡ false → out ≡ closing end (declared (p.Then x p.Done)) ++ out
none_closed x end out h = sym (ap (λ d. closing end d ++ out) (none_declared x h))

pub opens_none : (s : Standing) → s ≡ with_opened s []
opens_none s = ap (λ l. record s { opened = l }) (sym (append-nil s.opened))

pub none_opened : (x : p.Stmt) (s : Standing) → is_local x ≡ false → s ≡ with_opened s (declared (p.Then x p.Done))
none_opened x s h = opens_none s ∙ sym (ap (with_opened s) (none_declared x h))

-- a declared local: its drop, and that it is opened
pub one_closed : (x : p.Stmt) (end line slot words : ℕ) (out made : List Instr) → x ≡ p.New line slot words → made ≡ i.Release slot end ∷ out → made ≡ closing end (declared (p.Then x p.Done)) ++ out
one_closed x end line slot words out made is m = m ∙ sym (ap (λ z. closing end (declared (p.Then z p.Done)) ++ out) is)

pub one_opened : (x : p.Stmt) (line slot words : ℕ) (s s' : Standing) → x ≡ p.New line slot words → s' ≡ with_opened s (slot ∷ []) → s' ≡ with_opened s (declared (p.Then x p.Done))
one_opened x line slot words s s' is m = m ∙ sym (ap (λ z. with_opened s (declared (p.Then z p.Done))) is)

-- the drops of two lists of locals
pub closed_both : (end : ℕ) (a b : List ℕ) → closing end (a ++ b) ≡ closing end b ++ closing end a
closed_both end [] b = sym (append-nil (closing end b))
closed_both end (slot ∷ a) b = ap (λ l. l ++ i.Release slot end ∷ []) (closed_both end a b) ∙ append_assoc (closing end b) (closing end a) (i.Release slot end ∷ [])

pub opened_both : (s : Standing) (a b : List ℕ) → with_opened (with_opened s a) b ≡ with_opened s (a ++ b)
opened_both s a b = ap (λ l. record s { opened = l }) (append_assoc s.opened a b)

taken_declared : (items : List Stmt) (k : ℕ) (d : Stmt) → k < length items → declared (stmts_of (take (k + 1) items)) ≡ declared (stmts_of (take k items)) ++ declared (p.Then (stmt_of (get_or items k d)) p.Done)
taken_declared items k d lt = ap (λ l. declared (stmts_of l)) (take_more items k d lt) ∙ last_declared (take k items) (get_or items k d)

taken_with : (items : List Stmt) (k : ℕ) (x : Stmt) → k < length items → x ≡ get_or items k x → declared (stmts_of (take (k + 1) items)) ≡ declared (stmts_of (take k items)) ++ declared (p.Then (stmt_of x) p.Done)
taken_with items k x lt is = taken_declared items k x lt ∙ ap (λ z. declared (stmts_of (take k items)) ++ declared (p.Then (stmt_of z) p.Done)) (sym is)

-- one item more of those whose locals are opened
pub closed_more : (end k : ℕ) (items : List Stmt) (x : Stmt) (out made start : List Instr) → k < length items → x ≡ get_or items k x → out ≡ closing end (declared (stmts_of (take k items))) ++ start
    → made ≡ closing end (declared (p.Then (stmt_of x) p.Done)) ++ out → made ≡ closing end (declared (stmts_of (take (k + 1) items))) ++ start
closed_more end k items x out made start lt is o m =
    let one = declared (p.Then (stmt_of x) p.Done) in
    let all = declared (stmts_of (take k items)) in
    m ∙ ap (λ l. closing end one ++ l) o ∙ sym (append_assoc (closing end one) (closing end all) start) ∙ ap (λ l. l ++ start) (sym (closed_both end all one)) ∙ ap (λ l. closing end l ++ start) (sym (taken_with items k x lt is))

pub opened_more : (k : ℕ) (items : List Stmt) (x : Stmt) (s now new : Standing) → k < length items → x ≡ get_or items k x → now ≡ with_opened s (declared (stmts_of (take k items)))
    → new ≡ with_opened now (declared (p.Then (stmt_of x) p.Done)) → new ≡ with_opened s (declared (stmts_of (take (k + 1) items)))
opened_more k items x s now new lt is n m =
    let one = declared (p.Then (stmt_of x) p.Done) in
    m ∙ ap (λ z. with_opened z one) n ∙ opened_both s (declared (stmts_of (take k items))) one ∙ ap (with_opened s) (sym (taken_with items k x lt is))

-- Where more instructions stand behind a statement, its place is further from the loop's ends.
pub behind_place : (s : Standing) (n m : ℕ) → Fits s m → place_of s (n + m) ≡ before n (place_of s m)
behind_place s n m f =
    let a : n + m - s.exit ≡ n + (m - s.exit) = let e = f.exit in omega (arith, e) in
    let b : n + m - s.again ≡ n + (m - s.again) = let e = f.again in omega (arith, e) in
    ap (λ x. record { exit = x; again = n + m - s.again; in_loop = reverse (drop s.outside s.opened); in_function = reverse s.opened }) a
    ∙ ap (λ x. record { exit = n + (m - s.exit); again = x; in_loop = reverse (drop s.outside s.opened); in_function = reverse s.opened }) b

-- A local in memory more that is opened, whose drop is one instruction.
pub inside_place : (s : Standing) (slot m : ℕ) → Fits s m → place_of (with_opened s (slot ∷ [])) (1 + m) ≡ inside slot (place_of s m)
inside_place s slot m f =
    let a : 1 + m - s.exit ≡ 1 + (m - s.exit) = let e = f.exit in omega (arith, e) in
    let b : 1 + m - s.again ≡ 1 + (m - s.again) = let e = f.again in omega (arith, e) in
    let c : reverse (drop s.outside (s.opened ++ slot ∷ [])) ≡ slot ∷ reverse (drop s.outside s.opened) = ap reverse (drop-append-le s.outside s.opened (slot ∷ []) f.outside) ∙ reverse-append (drop s.outside s.opened) (slot ∷ []) in
    let d : reverse (s.opened ++ slot ∷ []) ≡ slot ∷ reverse s.opened = reverse-append s.opened (slot ∷ []) in
    ap (λ x. record { exit = x; again = 1 + m - s.again; in_loop = reverse (drop s.outside (s.opened ++ slot ∷ [])); in_function = reverse (s.opened ++ slot ∷ []) }) a
    ∙ ap (λ x. record { exit = 1 + (m - s.exit); again = x; in_loop = reverse (drop s.outside (s.opened ++ slot ∷ [])); in_function = reverse (s.opened ++ slot ∷ []) }) b
    ∙ ap (λ x. record { exit = 1 + (m - s.exit); again = 1 + (m - s.again); in_loop = x; in_function = reverse (s.opened ++ slot ∷ []) }) c
    ∙ ap (λ x. record { exit = 1 + (m - s.exit); again = 1 + (m - s.again); in_loop = slot ∷ reverse (drop s.outside s.opened); in_function = x }) d

pub opened_fits : (s : Standing) (slots : List ℕ) (m : ℕ) → Fits s m → Fits (with_opened s slots) (length slots + m)
opened_fits s slots m f =
    let a = f.exit in let b = f.again in let c = f.outside in
    record { exit = omega (arith, a); again = omega (arith, b); outside = omega (arith, c, length-append s.opened slots) }

pub more_fits : (s : Standing) (m n : ℕ) → m ≤ n → Fits s m → Fits s n
more_fits s m n le f = let a = f.exit in let b = f.again in record { exit = omega (arith, a, le); again = omega (arith, b, le); outside = f.outside }

-- Several locals more that are opened.
pub all_inside : (slots : List ℕ) (s : Standing) (m : ℕ) → Fits s m → place_of (with_opened s slots) (length slots + m) ≡ opened_place slots (place_of s m)
all_inside [] s m f =
    let e : 0 + m ≡ m = omega arith in
    ap (place_of (with_opened s [])) e ∙ ap (λ z. place_of z m) (sym (opens_none s))
all_inside (slot ∷ slots) s m f =
    let e : length (slot ∷ slots) + m ≡ length slots + (1 + m) = omega arith in
    ap (place_of (with_opened s (slot ∷ slots))) e
    ∙ ap (λ z. place_of z (length slots + (1 + m))) (sym (opened_both s (slot ∷ []) slots))
    ∙ all_inside slots (with_opened s (slot ∷ [])) (1 + m) (opened_fits s (slot ∷ []) m f)
    ∙ ap (opened_place slots) (inside_place s slot m f)

pub closing_length : (end : ℕ) (slots : List ℕ) → length (closing end slots) ≡ length slots
closing_length end [] = refl
closing_length end (slot ∷ slots) = let e = closing_length end slots in omega (arith, e, length-append (closing end slots) (i.Release slot end ∷ []))

-- The code of an item, where no local is declared.
pub item_put : (x : p.Stmt) (s now new : Standing) (end : ℕ) (rest : Place → List Instr) (behind out made : List Instr) → is_local x ≡ false → Fits s (length behind) → now ≡ with_opened s (declared (p.Then x p.Done))
    → out ≡ rest (opened_place (declared (p.Then x p.Done)) (place_of s (length behind))) ++ (closing end (declared (p.Then x p.Done)) ++ behind)
    → made ≡ stmt_code x (place_of now (length out)) ++ out → new ≡ now → (made ≡ item_code (place_of s (length behind)) end x (stmt_code x) rest ++ behind) × (new ≡ s)
item_put x s now new end rest behind out made h f n o m e =
    let P = place_of s (length behind) in
    let d = none_declared x h in
    let now_is : now ≡ s = n ∙ sym (none_opened x s h) in
    let out_is : out ≡ rest P ++ behind = o ∙ ap (λ z. rest (opened_place z P) ++ (closing end z ++ behind)) d in
    let place_is : place_of now (length out) ≡ before (length (rest P)) P =
    ap (λ z. place_of z (length out)) now_is ∙ ap (place_of s) (ap length out_is ∙ length-append (rest P) behind) ∙ behind_place s (length (rest P)) (length behind) f in (
      m ∙ ap (λ z. stmt_code x z ++ out) place_is ∙ ap (λ l. stmt_code x (before (length (rest P)) P) ++ l) out_is ∙ sym (append_assoc (stmt_code x (before (length (rest P)) P)) (rest P) behind)
          ∙ ap (λ l. l ++ behind) (sym ((plain_item x h).1 P end (stmt_code x) rest)),
      e ∙ now_is,
    )

-- The code of a declared local in memory, which is closed.
pub local_put : (x : p.Stmt) (line slot words : ℕ) (s now new : Standing) (end : ℕ) (rest : Place → List Instr) (behind out made : List Instr) → x ≡ p.New line slot words → now ≡ with_opened s (declared (p.Then x p.Done))
    → out ≡ rest (opened_place (declared (p.Then x p.Done)) (place_of s (length behind))) ++ (closing end (declared (p.Then x p.Done)) ++ behind)
    → made ≡ i.New slot words line ∷ out → ((before : Standing) (last : ℕ) → now ≡ with_opened before (last ∷ []) → new ≡ before) → (made ≡ item_code (place_of s (length behind)) end x (stmt_code x) rest ++ behind) × (new ≡ s)
local_put x line slot words s now new end rest behind out made is n o m closed =
    let P = place_of s (length behind) in
    let out_is : out ≡ rest (inside slot P) ++ i.Release slot end ∷ behind = o ∙ ap (λ z. rest (opened_place (declared (p.Then z p.Done)) P) ++ (closing end (declared (p.Then z p.Done)) ++ behind)) is in (
      m ∙ ap (λ l. i.New slot words line ∷ l) (out_is ∙ sym (append_assoc (rest (inside slot P)) (i.Release slot end ∷ []) behind)) ∙ ap (λ z. item_code P end z (stmt_code z) rest ++ behind) (sym is),
      closed s slot (n ∙ ap (λ z. with_opened s (declared (p.Then z p.Done))) is),
    )

pub opened_on : (a b : List ℕ) (place : Place) → opened_place (a ++ b) place ≡ opened_place b (opened_place a place)
opened_on [] b place = refl
opened_on (slot ∷ a) b place = opened_on a b (inside slot place)

-- What is made of a block's items from one on, with the drops and what is behind the block.
pub record Made (end : ℕ) (tail : Place → List Instr) (items : List Stmt) (s : Standing) (behind : List Instr) (left : ℕ) (out : List Instr) (now : Standing) : Type 0 where
  pub within : left ≤ length items
  pub code : out ≡ items_code end tail (stmts_of (drop left items)) (opened_place (declared (stmts_of (take left items))) (place_of s (length behind))) ++ (closing end (declared (stmts_of (take left items))) ++ behind)
  pub opened : now ≡ with_opened s (declared (stmts_of (take left items)))

-- Before the last item.
pub made_none : (end : ℕ) (tail : Place → List Instr) (items : List Stmt) (s now : Standing) (behind closed out : List Instr) (n : ℕ) → n ≡ length items → Fits s (length behind) → closed ≡ closing end (declared (stmts_of items)) ++ behind
    → now ≡ with_opened s (declared (stmts_of items)) → out ≡ tail (place_of now (length closed)) ++ closed → Made end tail items s behind n out now
made_none end tail items s now behind closed out n is f c o m =
    let d = declared (stmts_of items) in
    let all : take n items ≡ items = ap (λ k. take k items) is ∙ take-length items in
    let none : drop n items ≡ [] = ap (λ k. drop k items) is ∙ drop-length items in
    let long : length closed ≡ length d + length behind = ap length c ∙ length-append (closing end d) behind ∙ ap (λ k. k + length behind) (closing_length end d) in
    let place : place_of now (length closed) ≡ opened_place d (place_of s (length behind)) = ap (λ z. place_of z (length closed)) o ∙ ap (place_of (with_opened s d)) long ∙ all_inside d s (length behind) f in
    record {
      within = omega (arith, is);
      code =
          m ∙ ap (λ z. tail z ++ closed) place ∙ ap (λ z. tail (opened_place d (place_of s (length behind))) ++ z) c
          ∙ ap (λ l. items_code end tail (stmts_of l) (opened_place d (place_of s (length behind))) ++ (closing end d ++ behind)) (sym none)
          ∙ ap (λ l. items_code end tail (stmts_of (drop n items)) (opened_place (declared (stmts_of l)) (place_of s (length behind))) ++ (closing end (declared (stmts_of l)) ++ behind)) (sym all);
      opened = o ∙ ap (λ l. with_opened s (declared (stmts_of l))) (sym all);
    }

-- What surrounds the items fits what is made.
pub made_fits : (end : ℕ) (tail : Place → List Instr) (items : List Stmt) (s now : Standing) (behind out : List Instr) (left : ℕ) → Fits s (length behind) → Made end tail items s behind left out now → Fits now (length out)
made_fits end tail items s now behind out left f m =
    let d = declared (stmts_of (take left items)) in
    let front = items_code end tail (stmts_of (drop left items)) (opened_place d (place_of s (length behind))) in
    let long : length out ≡ length front + (length d + length behind) =
    ap length m.code ∙ length-append front (closing end d ++ behind) ∙ ap (λ k. length front + k) (length-append (closing end d) behind ∙ ap (λ k. k + length behind) (closing_length end d)) in
    let less : length d + length behind ≤ length out = omega (arith, long) in
    subst (λ z. Fits z (length out)) (sym m.opened) (more_fits (with_opened s d) (length d + length behind) (length out) less (opened_fits s d (length behind) f))

-- One item more.
pub made_more : (end : ℕ) (tail : Place → List Instr) (items : List Stmt) (s now new : Standing) (behind out made : List Instr) (left k : ℕ) (x : Stmt) → left ≡ suc k → get_or items k x ≡ x → Fits s (length behind) → Made end tail items s behind left out now
    → ((s' : Standing) (end' : ℕ) (rest : Place → List Instr) (behind' : List Instr) → Fits s' (length behind') → now ≡ with_opened s' (declared (p.Then (stmt_of x) p.Done))
    → out ≡ rest (opened_place (declared (p.Then (stmt_of x) p.Done)) (place_of s' (length behind'))) ++ (closing end' (declared (p.Then (stmt_of x) p.Done)) ++ behind')
    → (made ≡ item_code (place_of s' (length behind')) end' (stmt_of x) (stmt_code (stmt_of x)) rest ++ behind') × (new ≡ s')) → Made end tail items s behind k made new
made_more end tail items s now new behind out made left k x is at f m put =
    let w = m.within in
    let lt : k < length items = omega (arith, is, w) in
    let le : k ≤ length items = omega (arith, is, w) in
    let one = declared (p.Then (stmt_of x) p.Done) in
    let d = declared (stmts_of (take k items)) in
    let P = place_of s (length behind) in
    let more : take left items ≡ take (k + 1) items = let e : left ≡ k + 1 = omega (arith, is) in ap (λ n. take n items) e in
    let d_is : declared (stmts_of (take left items)) ≡ d ++ one = ap (λ l. declared (stmts_of l)) more ∙ taken_declared items k x lt ∙ ap (λ z. d ++ declared (p.Then (stmt_of z) p.Done)) at in
    let rest : Place → List Instr = items_code end tail (stmts_of (drop left items)) in
    let inner = closing end d ++ behind in
    let long : length inner ≡ length d + length behind = length-append (closing end d) behind ∙ ap (λ n. n + length behind) (closing_length end d) in
    let fits : Fits (with_opened s d) (length inner) = subst (Fits (with_opened s d)) (sym long) (opened_fits s d (length behind) f) in
    let place : place_of (with_opened s d) (length inner) ≡ opened_place d P = ap (place_of (with_opened s d)) long ∙ all_inside d s (length behind) f in
    let now_is : now ≡ with_opened (with_opened s d) one = m.opened ∙ ap (with_opened s) d_is ∙ sym (opened_both s d one) in
    let out_is : out ≡ rest (opened_place one (place_of (with_opened s d) (length inner))) ++ (closing end one ++ inner) =
    m.code
    ∙ ap (λ z. rest (opened_place z P) ++ (closing end z ++ behind)) d_is
    ∙ ap (λ z. rest z ++ (closing end (d ++ one) ++ behind)) (opened_on d one P ∙ ap (opened_place one) (sym place))
    ∙ ap (λ z. rest (opened_place one (place_of (with_opened s d) (length inner))) ++ z) (ap (λ z. z ++ behind) (closed_both end d one) ∙ append_assoc (closing end one) (closing end d) behind) in
    let done = put (with_opened s d) end rest inner fits now_is out_is in
    let front : stmts_of (drop k items) ≡ p.Then (stmt_of x) (stmts_of (drop left items)) =
    ap stmts_of (drop-cons items k x lt) ∙ ap (λ z. p.Then (stmt_of z) (stmts_of (drop (suc k) items))) at ∙ ap (λ n. p.Then (stmt_of x) (stmts_of (drop n items))) (sym is) in
    record {
      within = le;
      code = done.0 ∙ ap (λ z. item_code z end (stmt_of x) (stmt_code (stmt_of x)) rest ++ inner) place ∙ ap (λ z. items_code end tail z (opened_place d P) ++ inner) (sym front);
      opened = done.1;
    }

-- All of the items.
pub made_all : (end : ℕ) (tail : Place → List Instr) (items : List Stmt) (s now : Standing) (behind out : List Instr) (left : ℕ) → left ≡ 0 → Made end tail items s behind left out now
    → (out ≡ items_code end tail (stmts_of items) (place_of s (length behind)) ++ behind) × (now ≡ s)
made_all end tail items s now behind out left is m = (
  m.code ∙ ap (λ n. items_code end tail (stmts_of (drop n items)) (opened_place (declared (stmts_of (take n items))) (place_of s (length behind))) ++ (closing end (declared (stmts_of (take n items))) ++ behind)) is,
  m.opened ∙ ap (λ n. with_opened s (declared (stmts_of (take n items)))) is ∙ sym (opens_none s),
)

-- A loop's body stands at the loop's own ends.
pub body_place : (s : Standing) (end made : ℕ) → place_of (record { exit = end; again = made; opened = s.opened; outside = length s.opened }) made ≡ body_of (made - end) 0 (place_of s made)
body_place s end made =
    let a : made - made ≡ 0 = omega arith in
    let b : reverse (drop (length s.opened) s.opened) ≡ [] = ap reverse (drop-length s.opened) in
    ap (λ x. record { exit = made - end; again = x; in_loop = reverse (drop (length s.opened) s.opened); in_function = reverse s.opened }) a
    ∙ ap (λ x. record { exit = made - end; again = 0; in_loop = x; in_function = reverse s.opened }) b

-- The jumps of a loop whose condition comes behind its body.
pub do_closed : (line end n : ℕ) (test body rest out mended made : List Instr) → out ≡ body ++ (test ++ i.Again 0 line ∷ rest) → length rest ≡ end → n ≡ length out - end
    → ((front rest' : List Instr) (x : Instr) → out ≡ front ++ x ∷ rest' → length rest' ≡ end → mended ≡ front ++ i.Again (n - 1) line ∷ rest') → made ≡ i.Tick line ∷ mended → made ≡ do_code line test body ++ rest
do_closed line end n test body rest out mended made o e c mend m =
    let k : n - 1 ≡ length test + length body =
    let l : length out ≡ length body + (length test + length (i.Again 0 line ∷ rest)) = ap length o ∙ length-append body (test ++ i.Again 0 line ∷ rest) ∙ ap (λ z. length body + z) (length-append test (i.Again 0 line ∷ rest)) in
    omega (arith, c, l, e) in
    let is = mend (body ++ test) rest (i.Again 0 line) (o ∙ sym (append_assoc body test (i.Again 0 line ∷ rest))) e in
    m ∙ ap (λ l. i.Tick line ∷ l) (is ∙ ap (λ z. (body ++ test) ++ i.Again z line ∷ rest) k ∙ turned_round (i.Again (length test + length body) line))
  where
    turned_round : (x : Instr) → (body ++ test) ++ x ∷ rest ≡ (body ++ (test ++ x ∷ [])) ++ rest
    turned_round x = append_assoc body test (x ∷ rest) ∙ ap (λ l. body ++ l) (sym (append_assoc test (x ∷ []) rest)) ∙ sym (append_assoc body (test ++ x ∷ []) rest)

-- The jumps of a loop whose condition comes first.
pub loop_closed : (line end turn n passed : ℕ) (test step body rest out mended made : List Instr) → out ≡ body ++ (step ++ (test ++ i.Again 0 line ∷ rest)) → length rest ≡ end → turn ≡ length (test ++ i.Again 0 line ∷ rest)
    → n ≡ length out - end → passed ≡ length out - turn → ((front rest' : List Instr) (x : Instr) → out ≡ front ++ x ∷ rest' → length rest' ≡ end → mended ≡ front ++ i.Again (n - 1) line ∷ rest') → made ≡ i.Skip passed ∷ mended
    → made ≡ loop_code line test step body ++ rest
loop_closed line end turn n passed test step body rest out mended made o e t c q mend m =
    let l : length out ≡ length body + (length step + (length test + length (i.Again 0 line ∷ rest))) =
    ap length o ∙ length-append body (step ++ (test ++ i.Again 0 line ∷ rest)) ∙ ap (λ z. length body + z) (length-append step (test ++ i.Again 0 line ∷ rest) ∙ ap (λ z. length step + z) (length-append test (i.Again 0 line ∷ rest))) in
    let tl = length-append test (i.Again 0 line ∷ rest) in
    let k : n - 1 ≡ length test + length step + length body = omega (arith, c, l, e) in
    let j : passed ≡ length body + length step = omega (arith, q, l, t, tl) in
    let is = mend (body ++ (step ++ test)) rest (i.Again 0 line) (o ∙ ap (λ z. body ++ z) (sym (append_assoc step test (i.Again 0 line ∷ rest))) ∙ sym (append_assoc body (step ++ test) (i.Again 0 line ∷ rest))) e in
    m ∙ ap (λ z. i.Skip z ∷ mended) j ∙ ap (λ l'. i.Skip (length body + length step) ∷ l') (is ∙ ap (λ z. (body ++ (step ++ test)) ++ i.Again z line ∷ rest) k ∙ turned_round (i.Again (length test + length step + length body) line))
  where
    turned_round : (x : Instr) → (body ++ (step ++ test)) ++ x ∷ rest ≡ (body ++ (step ++ (test ++ x ∷ []))) ++ rest
    turned_round x =
        append_assoc body (step ++ test) (x ∷ rest)
        ∙ ap (λ l. body ++ l) (append_assoc step test (x ∷ rest) ∙ ap (λ l. step ++ l) (sym (append_assoc test (x ∷ []) rest)) ∙ sym (append_assoc step (test ++ x ∷ []) rest))
        ∙ sym (append_assoc body (step ++ (test ++ x ∷ [])) rest)

-- a block's code, from that of its items
pub block_put : (s : Stmt) (items : Vec Stmt Global) (given : List Stmt) (end : ℕ) (place : Place) (out made : List Instr) → s ≡ Block items end → given ≡ items.items → made ≡ items_code end no_ending (stmts_of given) place ++ out
    → made ≡ stmt_code (stmt_of s) place ++ out
block_put s items given end place out made is same m =
    m ∙ ap (λ l. items_code end no_ending (stmts_of l) place ++ out) same ∙ ap (λ z. stmt_code z place ++ out) (sym (ap stmt_of is ∙ block_is items end))
