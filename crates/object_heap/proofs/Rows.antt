-- Live rows: what is known of one, how many ranges they have, and how they are listed.
use Rattle.std.proofs.Common.{◌≡◌, ◌≢◌, ℕ, zero, suc, ◌+◌, ◌<◌, ◌≤◌, true, cond, nat_lt, [], ◌∷◌, slice_get, Option, Some, None, is_some, IsSomeAnd, refl, sym, ap, subst, ◌∙◌, arith}
use Rattle.std.proofs.lemmas.Bool.{false≢true}
use Rattle.std.proofs.lemmas.Bool.Decides.{nat_tests}
use Rattle.std.proofs.lemmas.List.Sums.{sum_by-cons}
use Rattle.block_table.specs.declared.rows.Row.{Row}
use Rattle.block_table.specs.declared.rows.Mark.{Mark}
use Rattle.block_table.specs.declared.rows.Mark.TheVariants.{Free, Sends, Receive}
use Rattle.block_table.specs.Rows.{Live, Rows, live, row_in, rows_of, is_free}
use Rattle.object_heap.specs.Kept.{range_of, range_in, ranges_of}

-- the row of a live slot
pub live_row : (P : Row → Type 0) (slot : Option Live) → IsSomeAnd slot (λ l. P l.row) → (row : Row) × (row_in slot ≡ Some row) × P row
live_row P None there = absurd there
live_row P (Some l) there = (l.row, refl, there)

some_row : (a b : Row) → Some a ≡ Some b → a ≡ b
some_row a b e = cc

none_row : (row : Row) → None ≡ Some row → ⊥
none_row row e = cc

-- what holds of a slot's row
pub row_live : (P : Row → Type 0) (slot : Option Live) (row : Row) → row_in slot ≡ Some row → P row → IsSomeAnd slot (λ l. P l.row)
row_live P None row is here = absurd (none_row row is)
row_live P (Some l) row is here = subst P (sym (some_row l.row row is)) here

pub live_at : (P : Row → Type 0) (slot : Option Live) (row : Row) → row_in slot ≡ Some row → IsSomeAnd slot (λ l. P l.row) → P row
live_at P None row is there = absurd there
live_at P (Some l) row is there = subst P (some_row l.row row is) there

pub some_row_is : (slot : Option Live) → is_some slot ≡ true → (row : Row) × (row_in slot ≡ Some row)
some_row_is None there = absurd (false≢true there)
some_row_is (Some l) there = (l.row, refl)

pub row_is_some : (slot : Option Live) (row : Row) → row_in slot ≡ Some row → is_some slot ≡ true
row_is_some None row is = absurd (none_row row is)
row_is_some (Some l) row is = refl

pub live_is_some : (P : Row → Type 0) (slot : Option Live) → IsSomeAnd slot (λ l. P l.row) → is_some slot ≡ true
live_is_some P None there = absurd there
live_is_some P (Some l) there = refl

pub one_row : (o : Option Row) (a b : Row) → o ≡ Some a → o ≡ Some b → a ≡ b
one_row o a b first second = some_row a b (sym first ∙ second)

pub no_row : (o : Option Row) (row : Row) → o ≡ None → o ≡ Some row → ⊥
no_row o row none some = none_row row (sym none ∙ some)

pub free_is : (mark : Mark) → is_free mark ≡ true → mark ≡ Free
free_is Free free = refl
free_is (Sends n) free = absurd (false≢true free)
free_is Receive free = absurd (false≢true free)

-- slots of which none is live have no ranges
pub no_ranges : (rows : Rows) → ((key : ℕ) → live rows key ≡ None) → ranges_of rows ≡ 0
no_ranges [] none = refl
no_ranges (x ∷ xs) none =
    let rest = no_ranges xs (λ k. none (suc k)) in
    let e = sum_by-cons range_in x xs in
    let first = ap range_in (none 0) in omega arith

-- slots whose rows are alike have as many ranges
pub same_ranges : (old new : Rows) → ((key : ℕ) → range_in (live new key) ≡ range_in (live old key)) → ranges_of new ≡ ranges_of old
same_ranges [] [] same = refl
same_ranges [] (y ∷ ys) same =
    let rest = same_ranges [] ys (λ k. same (suc k)) in let e = sum_by-cons range_in y ys in let first = same 0 in omega arith
same_ranges (x ∷ xs) [] same =
    let rest = same_ranges xs [] (λ k. same (suc k)) in let e = sum_by-cons range_in x xs in let first = same 0 in omega arith
same_ranges (x ∷ xs) (y ∷ ys) same =
    let rest = same_ranges xs ys (λ k. same (suc k)) in
    let e = sum_by-cons range_in x xs in let f = sum_by-cons range_in y ys in let first = same 0 in omega arith

-- the ranges of the rows, where one slot is another
pub changed_ranges : (old new : Rows) (key : ℕ) → ((other : ℕ) → other ≢ key → live new other ≡ live old other)
    → ranges_of new + range_in (live old key) ≡ ranges_of old + range_in (live new key)
changed_ranges [] [] key others = refl
changed_ranges [] (y ∷ ys) zero others =
    let rest = no_ranges ys (λ k. others (suc k) (λ e. absurd (omega arith))) in
    let e = sum_by-cons range_in y ys in omega arith
changed_ranges [] (y ∷ ys) (suc key) others =
    let rest = changed_ranges [] ys key (λ other differs. others (suc other) (λ e. differs (omega arith))) in
    let e = sum_by-cons range_in y ys in
    let none = ap range_in (others 0 (λ e. absurd (omega arith))) in omega arith
changed_ranges (x ∷ xs) [] zero others =
    let rest = no_ranges xs (λ k. sym (others (suc k) (λ e. absurd (omega arith)))) in
    let e = sum_by-cons range_in x xs in omega arith
changed_ranges (x ∷ xs) [] (suc key) others =
    let rest = changed_ranges xs [] key (λ other differs. others (suc other) (λ e. differs (omega arith))) in
    let e = sum_by-cons range_in x xs in
    let none = ap range_in (others 0 (λ e. absurd (omega arith))) in omega arith
changed_ranges (x ∷ xs) (y ∷ ys) zero others =
    let rest = same_ranges xs ys (λ k. ap range_in (others (suc k) (λ e. absurd (omega arith)))) in
    let e = sum_by-cons range_in x xs in let f = sum_by-cons range_in y ys in omega arith
changed_ranges (x ∷ xs) (y ∷ ys) (suc key) others =
    let rest = changed_ranges xs ys key (λ other differs. others (suc other) (λ e. differs (omega arith))) in
    let e = sum_by-cons range_in x xs in let f = sum_by-cons range_in y ys in
    let first = ap range_in (others 0 (λ e. absurd (omega arith))) in omega arith

-- the ranges of one slot are among those of all
pub range_among : (rows : Rows) (key : ℕ) → range_in (live rows key) ≤ ranges_of rows
range_among [] key = omega arith
range_among (x ∷ xs) zero = let e = sum_by-cons range_in x xs in omega arith
range_among (x ∷ xs) (suc key) = let rest = range_among xs key in let e = sum_by-cons range_in x xs in omega arith

pub range_by_row : (a b : Option Live) → row_in a ≡ row_in b → range_in a ≡ range_in b
range_by_row None None same = refl
range_by_row None (Some m) same = absurd (none_row m.row same)
range_by_row (Some l) None same = absurd (none_row l.row (sym same))
range_by_row (Some l) (Some m) same = ap (λ (r : Row). range_of r.len) (some_row l.row m.row same)

pub range_of_row : (slot : Option Live) (row : Row) → row_in slot ≡ Some row → range_in slot ≡ range_of row.len
range_of_row None row is = absurd (none_row row is)
range_of_row (Some l) row is = ap (λ (r : Row). range_of r.len) (some_row l.row row is)

pub one_range : (len : ℕ) → 0 < len → range_of len ≡ 1
one_range len some = ap (λ b. cond b 1 0) (let e : nat_lt 0 len ≡ true = grind (arith, nat_tests) in e)

-- each live row is listed
pub row_listed : (rows : Rows) (key : ℕ) (row : Row) → row_in (live rows key) ≡ Some row → (i : ℕ) × (slice_get (rows_of rows) i ≡ Some row)
row_listed [] key row is = absurd (none_row row is)
row_listed (None ∷ rows) zero row is = absurd (none_row row is)
row_listed (None ∷ rows) (suc key) row is = row_listed rows key row is
row_listed (Some l ∷ rows) zero row is = (0, is)
row_listed (Some l ∷ rows) (suc key) row is = let rest = row_listed rows key row is in (suc rest.0, rest.1)

-- each row that is listed is live
pub listed_row : (rows : Rows) (i : ℕ) (row : Row) → slice_get (rows_of rows) i ≡ Some row → (key : ℕ) × (row_in (live rows key) ≡ Some row)
listed_row [] i row is = absurd (none_row row is)
listed_row (None ∷ rows) i row is = let rest = listed_row rows i row is in (suc rest.0, rest.1)
listed_row (Some l ∷ rows) zero row is = (0, is)
listed_row (Some l ∷ rows) (suc i) row is = let rest = listed_row rows i row is in (suc rest.0, rest.1)

-- two rows that are listed have two keys
pub listed_rows : (rows : Rows) (i j : ℕ) (row other : Row) → i < j → slice_get (rows_of rows) i ≡ Some row → slice_get (rows_of rows) j ≡ Some other
    → (key : ℕ) × (second : ℕ) × (key < second) × (row_in (live rows key) ≡ Some row) × (row_in (live rows second) ≡ Some other)
listed_rows [] i j row other before is also = absurd (none_row row is)
listed_rows (None ∷ rows) i j row other before is also =
    let rest = listed_rows rows i j row other before is also in (suc rest.0, suc rest.1, omega (arith, rest.2), rest.3, rest.4)
listed_rows (Some l ∷ rows) i zero row other before is also = absurd (omega arith)
listed_rows (Some l ∷ rows) zero (suc j) row other before is also =
    let rest = listed_row rows j other also in (0, suc rest.0, omega arith, is, rest.1)
listed_rows (Some l ∷ rows) (suc i) (suc j) row other before is also =
    let rest = listed_rows rows i j row other (omega arith) is also in (suc rest.0, suc rest.1, omega (arith, rest.2), rest.3, rest.4)
