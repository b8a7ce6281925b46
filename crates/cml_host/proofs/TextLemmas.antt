-- A text of which the first bytes were handed over, one more than may be.
use Rattle.std.proofs.Common.{◌≡◌, ◌∙◌, ◌⊎◌, ◌+◌, ◌<◌, ◌≤◌, ℕ, Bool, List, take, length, Some, inl, inr, refl, ap, subst, arith, lt-ltb}
use Rattle.std.proofs.lemmas.Bool.{cases_lt}
use Rattle.std.proofs.lemmas.List.{take_all, length-take-le}
use Rattle.cml_text.specs.declared.fault.FaultKind.TheVariants.{Long}
use Rattle.cml_text.specs.Faults.{PlainFault}
use Rattle.cml_text.specs.Forms.{PlainSexpr}
use Rattle.cml_text.specs.Sizes.{text_limit}
use Rattle.cml_text.specs.Texts.{Spells, fault_of}
use Rattle.cml_host.specs.Refused.{IsExplained}
use Rattle.cml_host.specs.Scripts.{HasForms, IsFaulty, IsWholeText, text_line}
use Rattle.cml_host.specs.Stores.{Content, unknown, nothing, bytes, IsLoaded}

-- all of it was handed over, or it is too long, and so is what was handed over
pub all_or_long : (n : ℕ) (all : List ℕ) → (take (n + 1) all ≡ all) ⊎ ((n < length all) × (n < length (take (n + 1) all)))
all_or_long n all = go (cases_lt n (length all))
  where
    go : (n < length all) ⊎ (length all ≤ n) → (take (n + 1) all ≡ all) ⊎ ((n < length all) × (n < length (take (n + 1) all)))
    go (inl long) =
        let part : length (take (n + 1) all) ≡ n + 1 = length-take-le (n + 1) all (omega arith) in
        inr (long, omega arith)
    go (inr short) = inl (take_all (n + 1) all (omega arith))

-- the fault of a text that is too long
abbrev too_long : PlainFault
too_long = record { kind = Long; at = text_limit }

long_fault : (text : List ℕ) → text_limit < length text → fault_of text ≡ Some too_long
unfolding fault_of
long_fault text long = rw (lt-ltb _ _ long) refl

-- the fault of what was handed over is that of the whole, and so is what is told of it
whole_faulty : (explains : Bool) (all found told : List ℕ) (status : ℕ) → found ≡ take (text_limit + 1) all → IsFaulty explains found told status →
    IsFaulty explains all told status
whole_faulty explains all found told status is faulty = go (all_or_long text_limit all)
  where
    go : (take (text_limit + 1) all ≡ all) ⊎ ((text_limit < length all) × (text_limit < length (take (text_limit + 1) all))) → IsFaulty explains all told status
    go (inl same) = subst (λ (t : List ℕ). IsFaulty explains t told status) (is ∙ same) faulty
    go (inr long) =
        let is_long : fault_of found ≡ Some too_long = ap fault_of is ∙ long_fault _ long.1 in
        let found_so : fault_of found ≡ Some faulty.0 = faulty.1 in
        let it : faulty.0 ≡ too_long = cc in
        (too_long, long_fault all long.0, subst (λ (f : PlainFault). IsExplained explains (text_line f) told) it faulty.2, faulty.3)

-- what was handed over of a longer text spells nothing
whole_spelled : (all found : List ℕ) (forms : List PlainSexpr) → found ≡ take (text_limit + 1) all → Spells found forms → found ≡ all
whole_spelled all found forms is spells = go (all_or_long text_limit all)
  where
    go : (take (text_limit + 1) all ≡ all) ⊎ ((text_limit < length all) × (text_limit < length (take (text_limit + 1) all))) → found ≡ all
    go (inl same) = is ∙ same
    go (inr long) =
        let short : length (take (text_limit + 1) all) ≤ text_limit = subst (λ (t : List ℕ). length t ≤ text_limit) is spells.short in
        absurd (omega arith)

-- what was read of a text that lies there
pub spelled_there : (content : Content) (found : List ℕ) (forms : List PlainSexpr) → IsLoaded content text_limit found → Spells found forms → HasForms content found forms
spelled_there unknown found forms loaded spells = (tt, spells)
spelled_there nothing found forms loaded spells = absurd loaded
spelled_there (bytes all) found forms loaded spells = (whole_spelled all found forms loaded spells, spells)

pub faulty_there : (explains : Bool) (content : Content) (found told : List ℕ) (status : ℕ) → IsLoaded content text_limit found → IsFaulty explains found told status →
    (given : List ℕ) × IsWholeText content given × IsFaulty explains given told status
faulty_there explains unknown found told status loaded faulty = (found, tt, faulty)
faulty_there explains nothing found told status loaded faulty = absurd loaded
faulty_there explains (bytes all) found told status loaded faulty = (all, refl, whole_faulty explains all found told status loaded faulty)
