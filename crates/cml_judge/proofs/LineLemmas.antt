-- Texts that are whole lines, and where their lines begin.
use Rattle.std.proofs.Common.{◌≡◌, ◌⊎◌, ℕ, zero, suc, ◌+◌, ◌<◌, ◌≤◌, ◌==◌, Bool, true, false, cond, List, [], ◌∷◌, ◌++◌, length, refl, sym, ap, ◌∙◌, subst, arith, inl, inr}
use Rattle.std.specs.Prelude.{nat_lt}
use Rattle.std.specs.List.{onto_first}
use Rattle.std.proofs.lemmas.Bool.{cases_lt, lt-ltb, le-ltb}
use Rattle.std.proofs.lemmas.List.{append_assoc, append-nil}
use Rattle.cml_text.specs.Lines.{line, lines}
use Rattle.cml_judge.specs.Spots.{line_start}

-- nothing, or what ends with a line feed
abbrev pub AreLines : List ℕ → Type 0
AreLines text = (text ≡ []) ⊎ ((front : List ℕ) × (text ≡ line front))

pub are_lines_both : (text more : List ℕ) → AreLines text → AreLines more → AreLines (text ++ more)
are_lines_both text more are (inl none) = subst (λ (t : List ℕ). AreLines t) (sym (ap (λ t. text ++ t) none ∙ append-nil text)) are
are_lines_both text more are (inr (front, is)) = inr (text ++ front, ap (λ t. text ++ t) is ∙ sym (append_assoc text front (10 ∷ [])))

-- one byte in front
step_some : (is_feed : Bool) (b : ℕ) (xs : List (List ℕ)) → 0 < length xs → 0 < length (cond is_feed ([] ∷ xs) (onto_first b xs))
step_some true b xs some = omega arith
step_some false b [] some = omega arith
step_some false b (x ∷ xs) some = omega arith

step_both : (is_feed : Bool) (b : ℕ) (xs ys zs : List (List ℕ)) → 0 < length ys → xs ≡ ys ++ zs →
    cond is_feed ([] ∷ xs) (onto_first b xs) ≡ cond is_feed ([] ∷ ys) (onto_first b ys) ++ zs
step_both true b xs ys zs some same = ap (λ ls. [] ∷ ls) same
step_both false b xs [] zs some same = absurd (omega arith)
step_both false b xs (y ∷ ys) zs some same = ap (λ ls. onto_first b ls) same

step_long : (is_feed : Bool) (b n : ℕ) (xs : List (List ℕ)) → 0 < length xs → n ≡ line_start xs (length xs) →
    suc n ≡ line_start (cond is_feed ([] ∷ xs) (onto_first b xs)) (length (cond is_feed ([] ∷ xs) (onto_first b xs)))
step_long true b n xs some same = omega (arith, same)
step_long false b n [] some same = absurd (omega arith)
step_long false b n (x ∷ xs) some same = omega (arith, same)

step_within : (is_feed : Bool) (b n : ℕ) (xs : List (List ℕ)) → ((k : ℕ) → k < length xs → line_start xs k < n) → (k : ℕ) → k < length (cond is_feed ([] ∷ xs) (onto_first b xs)) →
    line_start (cond is_feed ([] ∷ xs) (onto_first b xs)) k < suc n
step_within true b n xs each zero there = omega arith
step_within true b n xs each (suc k) there = omega (arith, each k (omega arith))
step_within false b n [] each zero there = omega arith
step_within false b n [] each (suc k) there = absurd (omega arith)
step_within false b n (x ∷ xs) each zero there = omega arith
step_within false b n (x ∷ xs) each (suc k) there = omega (arith, each (suc k) there)

lines_some : (front : List ℕ) → 0 < length (lines (line front))
lines_some [] = omega arith
lines_some (b ∷ bytes) = step_some (b == 10) b (lines (line bytes)) (lines_some bytes)

lines_both : (front more : List ℕ) → lines (line front ++ more) ≡ lines (line front) ++ lines more
lines_both [] more = refl
lines_both (b ∷ bytes) more = step_both (b == 10) b (lines (line bytes ++ more)) (lines (line bytes)) (lines more) (lines_some bytes) (lines_both bytes more)

lines_long : (front : List ℕ) → length (line front) ≡ line_start (lines (line front)) (length (lines (line front)))
lines_long [] = refl
lines_long (b ∷ bytes) = step_long (b == 10) b (length (line bytes)) (lines (line bytes)) (lines_some bytes) (lines_long bytes)

-- the lines of whole lines and of what stands behind them
pub lines_of_both : (text more : List ℕ) → AreLines text → lines (text ++ more) ≡ lines text ++ lines more
lines_of_both text more (inl none) = ap (λ t. lines (t ++ more)) none ∙ sym (ap (λ t. lines t ++ lines more) none)
lines_of_both text more (inr (front, is)) = ap (λ t. lines (t ++ more)) is ∙ lines_both front more ∙ sym (ap (λ t. lines t ++ lines more) is)

-- whole lines are as long as where the next line would begin
pub as_long : (text : List ℕ) → AreLines text → length text ≡ line_start (lines text) (length (lines text))
as_long text (inl none) = ap length none ∙ sym (ap (λ t. line_start (lines t) (length (lines t))) none)
as_long text (inr (front, is)) = ap length is ∙ lines_long front ∙ sym (ap (λ t. line_start (lines t) (length (lines t))) is)

-- each line begins within the text
pub starts_within : (text : List ℕ) (n : ℕ) → n < length (lines text) → line_start (lines text) n < length text
starts_within [] n there = absurd (omega arith)
starts_within (b ∷ bytes) n there = step_within (b == 10) b (length bytes) (lines bytes) (λ k h. starts_within bytes k h) n there

-- where lines begin among more lines
start_first : (ls : List (List ℕ)) → line_start ls 0 ≡ 0
start_first [] = refl
start_first (l ∷ ls) = refl

start_among : (xs ys : List (List ℕ)) (n : ℕ) → n ≤ length xs → line_start (xs ++ ys) n ≡ line_start xs n
start_among xs ys zero h = start_first (xs ++ ys) ∙ sym (start_first xs)
start_among [] ys (suc n) h = absurd (omega arith)
start_among (x ∷ xs) ys (suc n) h = ap (λ k. length x + 1 + k) (start_among xs ys n (omega arith))

start_grows : (ls : List (List ℕ)) (m n : ℕ) → m ≤ n → line_start ls m ≤ line_start ls n
start_grows [] m n h = omega arith
start_grows (l ∷ ls) zero n h = omega arith
start_grows (l ∷ ls) (suc m) zero h = absurd (omega arith)
start_grows (l ∷ ls) (suc m) (suc n) h = omega (arith, start_grows ls m n (omega arith))

start_less : (ls : List (List ℕ)) (m n : ℕ) → m < n → m < length ls → line_start ls m < line_start ls n
start_less [] m n h there = absurd (omega arith)
start_less (l ∷ ls) m zero h there = absurd (omega arith)
start_less (l ∷ ls) zero (suc n) h there = omega arith
start_less (l ∷ ls) (suc m) (suc n) h there = omega (arith, start_less ls m n (omega arith) (omega arith))

same_tests : (a b c d : ℕ) → (a < b → c < d) → (b ≤ a → d ≤ c) → nat_lt a b ≡ nat_lt c d
same_tests a b c d less more =
    elim (cases_lt a b) [ inl lt ↦ lt-ltb a b lt ∙ sym (lt-ltb c d (less lt)) | inr le ↦ le-ltb a b le ∙ sym (le-ltb c d (more le)) ]

-- A line is among the first ones exactly if its first byte is.
pub within_by_byte : (text begin more : List ℕ) (n : ℕ) → text ≡ begin ++ more → AreLines begin → n < length (lines text) →
    nat_lt n (length (lines begin)) ≡ nat_lt (line_start (lines text) n) (length begin)
within_by_byte text begin more n split are there =
    let m = length (lines begin) in
    let same : lines text ≡ lines begin ++ lines more = ap lines split ∙ lines_of_both begin more are in
    let long : length begin ≡ line_start (lines text) m =
    as_long begin are ∙ (sym (start_among (lines begin) (lines more) m (omega arith)) ∙ ap (λ ls. line_start ls m) (sym same)) in
    same_tests n m (line_start (lines text) n) (length begin)
    (λ lt. omega (arith, long, start_less (lines text) n m lt there))
    (λ le. omega (arith, long, start_grows (lines text) m n le))
