-- Values that may be missing.
use Rattle.std.specs.Prelude.{List, [], ◌∷◌, Option, Some, None}

-- what the function gives for two values, if both are there
abbrev pub both : {A B C : Type 0} → (A → B → C) → Option A → Option B → Option C
both f (Some a) (Some b) = Some (f a b)
both f _ _ = None

-- the values of a list, if all are there
abbrev pub all_of : {A : Type 0} → List (Option A) → Option (List A)
all_of [] = Some []
all_of (o ∷ os) = both (λ x xs. x ∷ xs) o (all_of os)
