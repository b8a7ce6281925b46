-- Rows that are among others.
use Rattle.std.proofs.Common.{◌≡◌, ℕ, zero, suc, ◌<◌, Bool, true, false, ◌&&◌, ◌||◌, nat_eq, List, [], ◌∷◌, length, refl, ap, ◌∙◌, arith, slice_index_or}
use Rattle.std.specs.Prelude.{Contains}
use Rattle.std.proofs.lemmas.Bool.{and_parts}
use Rattle.std.proofs.lemmas.Bool.Decides.{nat_tests}
use Rattle.cml_value.specs.declared.number.Tid.{Tid}
use Rattle.cml_scan.specs.Scan.{has_row, same_row}
use Rattle.cml_scan.specs.declared.meet.Meet.{Meet}
use Rattle.cml_scan.specs.declared.meet.Meet.TheVariants.{Single, Pair}

-- a row that is told to be there is there
same_number : (a b : ℕ) → nat_eq a b ≡ true → a ≡ b
same_number a b h = grind (arith, nat_tests)

same_tid : (a b : Tid) → a.0 ≡ b.0 → a ≡ b
same_tid a b h = ap (λ n. record { 0 = n }) h

row_is : (r s : Meet) → same_row r s ≡ true → s ≡ r
row_is (Single t n) (Single u m) h =
    let p = and_parts (nat_eq t.0 u.0) (nat_eq n m) h in
    let a = same_tid t u (same_number t.0 u.0 p.0) in let b = same_number n m p.1 in cc
row_is (Single t n) (Pair a i o j) h = cc
row_is (Pair a i o j) (Single t n) h = cc
row_is (Pair a i o j) (Pair b k q l) h =
    let p = and_parts (nat_eq a.0 b.0 && nat_eq i k) (nat_eq o.0 q.0 && nat_eq j l) h in
    let x = and_parts (nat_eq a.0 b.0) (nat_eq i k) p.0 in
    let y = and_parts (nat_eq o.0 q.0) (nat_eq j l) p.1 in
    let d = same_tid a b (same_number a.0 b.0 x.0) in let e = same_number i k x.1 in let f = same_tid o q (same_number o.0 q.0 y.0) in let g = same_number j l y.1 in cc

there_at : (rows : List Meet) (r row : Meet) (b : Bool) → same_row row r ≡ b → b || has_row rows row ≡ true → (has_row rows row ≡ true → Contains rows row) → Contains (r ∷ rows) row
there_at rows r row true e h more = (zero, omega arith, row_is row r e)
there_at rows r row false e h more = let k = more h in (suc k.0, omega (arith, k.1), k.2)

pub row_there : (rows : List Meet) (row : Meet) → has_row rows row ≡ true → Contains rows row
row_there [] row h = cc
row_there (r ∷ rows) row h = there_at rows r row (same_row row r) refl h (row_there rows row)

number_same : (a : ℕ) → nat_eq a a ≡ true
number_same a = grind (arith, nat_tests)

row_same : (r : Meet) → same_row r r ≡ true
row_same (Single t n) = rw (number_same t.0, number_same n) refl
row_same (Pair a i o j) = rw (number_same a.0, number_same i, number_same o.0, number_same j) refl

or_left : (a b : Bool) → a ≡ true → a || b ≡ true
or_left true b h = refl
or_left false b h = cc

or_right : (a b : Bool) → b ≡ true → a || b ≡ true
or_right true b h = refl
or_right false b h = h

has_at : (rows : List Meet) (row : Meet) (k : ℕ) → k < length rows → slice_index_or rows k row ≡ row → has_row rows row ≡ true
has_at [] row k lt is = absurd (omega arith)
has_at (r ∷ rows) row zero lt is = or_left (same_row row r) (has_row rows row) (ap (same_row row) is ∙ row_same row)
has_at (r ∷ rows) row (suc k) lt is = or_right (same_row row r) (has_row rows row) (has_at rows row k (omega arith) is)

-- a row that is there is told to be there
pub has_there : (rows : List Meet) (row : Meet) → Contains rows row → has_row rows row ≡ true
has_there rows row c = has_at rows row c.0 c.1 c.2
