-- How breaches are gathered, run by run; and what is known of one run.
use Rattle.std.proofs.Common.{◌≡◌, ℕ, ◌+◌, ◌<◌, ◌≤◌, List, [], ◌∷◌, ◌++◌, length, get_or, drop, Option, Some, None, refl, ap, sym, ◌∙◌, subst, arith, inl, inr}
use Rattle.std.specs.Prelude.{MatchOption}
use Rattle.std.proofs.lemmas.List.{append_assoc, append-nil, drop_all, drop_more}
use Rattle.cml_text.specs.Lines.{lines}
use Rattle.cml_properties.specs.declared.breach.Run.{Run}
use Rattle.cml_properties.specs.declared.breach.Breach.{Breach}
use Rattle.cml_properties.specs.declared.property.Property.{Property}
use Rattle.cml_properties.specs.Breaches.{KeepsBeside, BreaksBeside, breach_told, AreBreachesFrom, AreBreaches}

-- What is told of the runs that are left, behind what was found, is told of all.
abbrev pub ToldOn : Property → List (List ℕ) → List Run → ℕ → List Breach → Type 0
ToldOn property first runs i found =
    (others : List Breach) → AreBreachesFrom property first i (drop i runs) others → AreBreachesFrom property first 0 runs (found ++ others)

told_run : (property : Property) (first : List (List ℕ)) (i : ℕ) (run : Run) (runs : List Run) (line : Option ℕ) (others : List Breach) →
    MatchOption line (KeepsBeside property first run) (BreaksBeside property first run) → AreBreachesFrom property first (i + 1) runs others →
    AreBreachesFrom property first i (run ∷ runs) (breach_told i line ++ others)
told_run property first i run runs None others keeps told = inl (keeps, told)
told_run property first i run runs (Some line) others breaks told = inr (line, others, breaks, told, refl)

pub told_next : (property : Property) (first : List (List ℕ)) (runs : List Run) (i : ℕ) (d : Run) (line : Option ℕ) (found found' : List Breach) →
    i < length runs → MatchOption line (KeepsBeside property first (get_or runs i d)) (BreaksBeside property first (get_or runs i d)) →
    found' ≡ found ++ breach_told i line → ToldOn property first runs i found → ToldOn property first runs (i + 1) found'
told_next property first runs i d line found found' lt says grown on = λ others told.
    let here : AreBreachesFrom property first i (drop i runs) (breach_told i line ++ others) =
    subst (λ (rs : List Run). AreBreachesFrom property first i rs (breach_told i line ++ others)) (sym (drop_more runs i d lt))
    (told_run property first i (get_or runs i d) (drop (i + 1) runs) line others says told) in
    let same : found ++ (breach_told i line ++ others) ≡ found' ++ others = sym (append_assoc found (breach_told i line) others) ∙ ap (λ bs. bs ++ others) (sym grown) in
    subst (λ (bs : List Breach). AreBreachesFrom property first 0 runs bs) same (on (breach_told i line ++ others) here)

pub told_all : (property : Property) (first : List (List ℕ)) (runs : List Run) (i : ℕ) (found : List Breach) → length runs ≤ i → ToldOn property first runs i found →
    AreBreachesFrom property first 0 runs found
told_all property first runs i found le on =
    let none : AreBreachesFrom property first i [] [] = refl in
    subst (λ (bs : List Breach). AreBreachesFrom property first 0 runs bs) (append-nil found)
    (on [] (subst (λ (rs : List Run). AreBreachesFrom property first i rs []) (sym (drop_all i runs le)) none))

-- the first lines are those of the first run
pub told_of_all : (property : Property) (runs : List Run) (first : List (List ℕ)) (d : Run) (found : List Breach) → 0 < length runs →
    first ≡ lines (get_or runs 0 d).output.now → AreBreachesFrom property first 0 runs found → AreBreaches property runs found
told_of_all property [] first d found lt same told = absurd (omega arith)
told_of_all property (head ∷ runs) first d found lt same told =
    subst (λ (ls : List (List ℕ)). AreBreachesFrom property ls 0 (head ∷ runs) found) same told
