-- What an argument that was served gives.
use Rattle.std.proofs.Common.{◌≡◌, ◌&&◌, ◌≤◌, ◌||◌, ◌++◌, ap, ap₂, ℕ, Bool, codes, cond, true, false, refl, sym}
use Rattle.std.proofs.Common.{subst, arith, List, [], ◌∷◌, Option, Some, None, IfSome, is_some, option_map}
use Rattle.std.proofs.Common.{true≢false, ltb}
use borrow.Author.Tests.{ltb-true}
use Rattle.std.specs.Prelude.{Ok, Err, Result, option_and_then, slice_get, unwrap_or}
use Rattle.std.specs.Int.{IsInRange}
use Rattle.std.specs.List.{find, list_all}
use Rattle.std.specs.Option.{option_map_or}
use Rattle.std.specs.Str.{bytes_eq}
use Rattle.std.proofs.lemmas.Slice.Eq.{bytes_eq-Decides}
use Rattle.std.specs.Str.Parse.{ParsesUnsigned, digits_value, without_leading_plus}
use Rattle.clap.specs.Matches.{ReadsOne}
use Rattle.clap.specs.Values.{IsUnsignedIn, read_as}
use Rattle.clap.specs.ValueTests.{is_unsigned_in}
use Rattle.clap.specs.Walk.{arg_by_id, first_of, one_of, row_text}
use Rattle.clap.specs.Words.{Row, Rule, Text}
use Rattle.clap.specs.declared.builder.value_parser.Reading.{Reading}
use Rattle.clap.specs.declared.builder.value_parser.Reading.TheVariants.{AsWritten, WithoutMinus, Boolish, Falsey}
use Rattle.clap.specs.declared.builder.value_parser.ValueParser.TheVariants as vp
use Rattle.clap.proofs.ValueTestLemmas.{Accepts-accepts, accepts-Accepts}
use Rattle.clap.proofs.WalkLemmas.{both}
use Rattle.cml_arguments.specs.Words.{any_rule, explain_rules, file_rule, flag_rule, is_as_written, is_flagged, has_first_value, is_served, option_number, number_rule, AreServed}

pub as_written : (how : Reading) → is_as_written how ≡ true → how ≡ AsWritten
as_written AsWritten plain = refl
as_written WithoutMinus plain = absurd (true≢false (sym plain))
as_written Boolish plain = absurd (true≢false (sym plain))
as_written Falsey plain = absurd (true≢false (sym plain))

-- where each argument of a command was served, the one of this name was
served_by_name : (given : List Row) (rules : List Rule) (id : Text) (a : Rule) → list_all (is_served given) rules ≡ true → arg_by_id rules id ≡ Some a → is_served given a ≡ true
served_by_name given [] id a served found = cc
served_by_name given (x ∷ rest) id a served found =
    let parts = both _ _ served in
    go (bytes_eq x.id id) found (served_by_name given rest id a parts.1) parts.0
  where
    go : (b : Bool) → cond b (Some x) (arg_by_id rest id) ≡ Some a → (arg_by_id rest id ≡ Some a → is_served given a ≡ true) → is_served given x ≡ true → is_served given a ≡ true
    go true here others mine =
        let same : x ≡ a = cc in
        subst (λ (r : Rule). is_served given r ≡ true) same mine
    go false there others mine = others there

-- where each argument is served, each of the last ones is
served_last : (given : List Row) (first last : List Rule) → list_all (is_served given) (first ++ last) ≡ true → list_all (is_served given) last ≡ true
served_last given [] last served = served
served_last given (a ∷ rest) last served = served_last given rest last (both _ _ served).1

-- and each of the first ones
served_first : (given : List Row) (first last : List Rule) → list_all (is_served given) (first ++ last) ≡ true → list_all (is_served given) first ≡ true
served_first given [] last served = refl
served_first given (a ∷ rest) last served =
    let parts = both (is_served given a) (list_all (is_served given) (rest ++ last)) served in
    ap₂ (λ x y. x && y) parts.0 (served_first given rest last parts.1)

-- and so are those in the middle, and the last ones, by which a command is asked to explain
pub mid_served : (given : List Row) (first mid last : List Rule) → AreServed given (first ++ (mid ++ last)) → AreServed given mid
mid_served given first mid last served = record { each = served_first given mid last (served_last given first (mid ++ last) served.each) }

pub explain_served : (given : List Row) (own : List Rule) → AreServed given (own ++ explain_rules) → AreServed given explain_rules
explain_served given own served = record { each = served_last given own explain_rules served.each }

-- a flag of a command each of whose arguments was served was
pub flag_served : (given : List Row) (rules : List Rule) (id : Text) → AreServed given rules → arg_by_id rules id ≡ Some (flag_rule id)
    → is_served given (flag_rule id) ≡ true
flag_served given rules id served named = served_by_name given rules id (flag_rule id) served.each named

-- the first value is there, and passes
filled_first : (test : Text → Bool) (values : List Text) → option_map_or test (slice_get values 0) false ≡ true → (v : Text) × (slice_get values 0 ≡ Some v) × (test v ≡ true)
filled_first test [] filled = absurd (true≢false (sym filled))
filled_first test (v ∷ vs) filled = (v, refl, filled)

-- what must be given is given
pub file_given : (given : List Row) (rules : List Rule) (id : Text) → AreServed given rules → arg_by_id rules id ≡ Some (file_rule id)
    → is_some (first_of id given) ≡ true
file_given given rules id served named = go (find (λ row. bytes_eq row.id id) given) (served_by_name given rules id (file_rule id) served.each named)
  where
    go : (o : Option Row) → option_map_or (has_first_value (file_rule id)) o false ≡ true → is_some (option_and_then (λ r. slice_get r.values 0) o) ≡ true
    go None filled = absurd (true≢false (sym filled))
    go (Some row) filled =
        let first = filled_first _ row.values (both _ _ filled).1 in
        rw first.1 refl

-- what is read of a value that passed, as it is written
row_case : (test : Text → Bool) (values : List Text) (how : Reading) → (is_as_written how && option_map_or test (slice_get values 0) false) ≡ true
    → (P : Option Text → Option Text → Type 0) → ((text : Text) → test text ≡ true → P (Some text) (Some text)) → P (option_map (read_as how) (slice_get values 0)) (slice_get values 0)
row_case test [] how filled P some = absurd (true≢false (sym (both _ _ filled).1))
row_case test (v ∷ vs) how filled P some =
    let parts = both _ _ filled in
    subst (λ (h : Reading). P (Some (read_as h v)) (Some v)) (sym (as_written how parts.0)) (some v parts.1)

-- ---- flags

-- what a getter makes of a flag's row, which is read as it is written, is whether the flag is given
pub reads_flag : (given : List Row) (id : Text) (r : Bool) → is_served given (flag_rule id) ≡ true → (one_of id given ≡ None → r ≡ false)
    → (one_of id given ≡ Some (codes "true") → r ≡ true) → (one_of id given ≡ Some (codes "false") → r ≡ false) → r ≡ is_flagged id given
reads_flag given id r served = go (find (λ row. bytes_eq row.id id) given) served
  where
    text : (v : Text) → (bytes_eq v (codes "true") || bytes_eq v (codes "false")) ≡ true
        → (Some v ≡ None → r ≡ false) → (Some v ≡ Some (codes "true") → r ≡ true) → (Some v ≡ Some (codes "false") → r ≡ false) → r ≡ bytes_eq v (codes "true")
    text v pass none on off = one (bytes_eq v (codes "true")) refl pass
      where
        one : (b : Bool) → bytes_eq v (codes "true") ≡ b → (b || bytes_eq v (codes "false")) ≡ true → r ≡ b
        one true is any = on (ap Some ((bytes_eq-Decides v (codes "true")).0 is))
        one false is any = off (ap Some ((bytes_eq-Decides v (codes "false")).0 any))

    go : (o : Option Row) → option_map_or (has_first_value (flag_rule id)) o true ≡ true → (option_and_then row_text o ≡ None → r ≡ false)
        → (option_and_then row_text o ≡ Some (codes "true") → r ≡ true) → (option_and_then row_text o ≡ Some (codes "false") → r ≡ false)
        → r ≡ option_map_or (λ text. bytes_eq text (codes "true")) (option_and_then (λ row. slice_get row.values 0) o) false
    go None filled none on off = none refl
    go (Some row) filled none on off =
        row_case (λ v. bytes_eq v (codes "true") || bytes_eq v (codes "false")) row.values row.reading filled
        (λ one first. (one ≡ None → r ≡ false) → (one ≡ Some (codes "true") → r ≡ true) → (one ≡ Some (codes "false") → r ≡ false)
        → r ≡ option_map_or (λ text. bytes_eq text (codes "true")) first false)
        text none on off

-- ---- numbers

-- an option of numbers was given none, or one within its bounds, which is read as it is written
number_cases : (least most : ℕ) (given : List Row) (id : Text) → is_served given (number_rule least most id) ≡ true
    → (P : Option Text → Option Text → Type 0) → P None None → ((text : Text) → IsUnsignedIn least most text → P (Some text) (Some text))
    → P (one_of id given) (first_of id given)
number_cases least most given id served P none some = go (find (λ row. bytes_eq row.id id) given) served
  where
    go : (o : Option Row) → option_map_or (has_first_value (number_rule least most id)) o true ≡ true → P (option_and_then row_text o) (option_and_then (λ r. slice_get r.values 0) o)
    go None filled = none
    go (Some row) filled =
        row_case (is_unsigned_in least most) row.values row.reading filled P (λ text within. some text (accepts-Accepts false (vp.Unsigned least most) text within))

-- a number within bounds is a number
pub number_served : (given : List Row) (rules : List Rule) (id : Text) (least most : ℕ) → AreServed given rules
    → arg_by_id rules id ≡ Some (number_rule least most id) → ltb most 18446744073709551616 ≡ true → is_served given (any_rule id) ≡ true
number_served given rules id least most served named bound = go (find (λ row. bytes_eq row.id id) given) (served_by_name given rules id _ served.each named)
  where
    wider : (text : Text) → is_unsigned_in least most text ≡ true → is_unsigned_in 0 18446744073709551615 text ≡ true
    wider text within =
        let is = accepts-Accepts false (vp.Unsigned least most) text within in
        let below : digits_value 10 (without_leading_plus text) ≤ most = is.3 in
        Accepts-accepts false (vp.Unsigned 0 18446744073709551615) text (is.0, is.1, omega arith, omega (arith, below, ltb-true _ _ bound))

    go : (o : Option Row) → option_map_or (has_first_value (number_rule least most id)) o true ≡ true → option_map_or (has_first_value (any_rule id)) o true ≡ true
    go None filled = refl
    go (Some row) filled =
        let parts = both _ _ filled in
        let plain : is_as_written row.reading ≡ true = parts.0 in
        let first = filled_first (is_unsigned_in least most) row.values parts.1 in
        let here : slice_get row.values 0 ≡ Some first.0 = first.1 in
        rw (plain, here) (wider first.0 first.2)

-- and lies within them
in_range : (given : List Row) (rules : List Rule) (id : Text) (least most : ℕ) → AreServed given rules
    → arg_by_id rules id ≡ Some (number_rule least most id) → IfSome (option_number id given) (IsInRange least most)
in_range given rules id least most served named =
    number_cases least most given id (served_by_name given rules id _ served.each named)
    (λ one first. IfSome (option_map (λ text. digits_value 10 (without_leading_plus text)) first) (IsInRange least most)) tt (λ text within. (within.2, within.3))

-- so is the number that was read, where one was given
pub number_in_range : (given : List Row) (rules : List Rule) (id : Text) (least most : ℕ) (read : Option ℕ) → AreServed given rules
    → arg_by_id rules id ≡ Some (number_rule least most id) → read ≡ option_number id given → IfSome read (IsInRange least most)
number_in_range given rules id least most read served named is =
    subst (λ (o : Option ℕ). IfSome o (IsInRange least most)) (sym is) (in_range given rules id least most served named)

-- and the one that is taken where none was given
or_in_range : (least most default : ℕ) (o : Option ℕ) → IfSome o (IsInRange least most) → IsInRange least most default → IsInRange least most (unwrap_or o default)
or_in_range least most default None within here = here
or_in_range least most default (Some n) within here = within

pub default_in_range : (given : List Row) (rules : List Rule) (id : Text) (least most default n : ℕ) (read : Option ℕ) → AreServed given rules
    → arg_by_id rules id ≡ Some (number_rule least most id) → IsInRange least most default → read ≡ option_number id given → n ≡ unwrap_or read default
    → IsInRange least most n
default_in_range given rules id least most default n read served named here is taken =
    subst (IsInRange least most) (sym taken) (or_in_range least most default read (number_in_range given rules id least most read served named is) here)

-- the number that `get_one` reads is the one that was given
pub reads_number : (E : Type 0) (G : List ℕ → Result ℕ E → Type 0) (given : List Row) (id : Text) (r : Option ℕ) → is_served given (any_rule id) ≡ true
    → ((u : List ℕ) (x : Result ℕ E) → G u x → ParsesUnsigned 64 10 u x) → (one_of id given ≡ None → r ≡ None) → ((t : List ℕ) → one_of id given ≡ Some t → ReadsOne G t r)
    → r ≡ option_number id given
reads_number E G given id r served only none some =
    number_cases 0 18446744073709551615 given id served
    (λ one first. (one ≡ None → r ≡ None) → ((t : List ℕ) → one ≡ Some t → ReadsOne G t r) → r ≡ option_map (λ text. digits_value 10 (without_leading_plus text)) first)
    (λ none some. none refl) (λ text within none some. read text within r (some text refl)) none some
  where
    read : (text : Text) → IsUnsignedIn 0 18446744073709551615 text → (r : Option ℕ) → ReadsOne G text r → r ≡ Some (digits_value 10 (without_leading_plus text))
    read text within (Some n) reads = ap (λ m. Some m) (only text (Ok n) reads).1
    read text within None reads = absurd (only text (Err reads.0) reads.1 (within.0, within.1))
