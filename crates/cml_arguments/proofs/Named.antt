-- The command that the matches name, with what it was given.
use Rattle.std.proofs.Common.{◌≡◌, ap₂, sym, refl, subst, codes, Bool, true, false, true≢false, List, Option, Some, None, IsSomeAnd, option_map}
use Rattle.std.specs.Str.{bytes_eq}
use Rattle.std.proofs.lemmas.Slice.Eq.{bytes_eq-Decides}
use Rattle.clap.specs.Words.{Row, Text, rows_of}
use Rattle.clap.specs.declared.parser.matches.Found.{Found}
use Rattle.cml_arguments.specs.Words.{commands, is_complete, Names}
use Rattle.cml_arguments.specs.declared.Task.{Task}

named_is : (found : Option (Text × List Row)) (name : Text) (below : Found) → option_map (λ p. p.0) found ≡ Some name
    → Some (rows_of below) ≡ option_map (λ p. p.1) found → Some (name, rows_of below) ≡ found
named_is None name below named rows = cc
named_is (Some p) name below named rows =
    let first : name ≡ p.0 = cc in
    let second : rows_of below ≡ p.1 = cc in
    ap₂ (λ a b. Some (a, b)) first second

-- it is a command of the program, whose arguments were served
pub named_complete : (found : Option (Text × List Row)) (name : Text) (below : Found) → option_map (λ p. p.0) found ≡ Some name
    → Some (rows_of below) ≡ option_map (λ p. p.1) found → is_complete commands found ≡ true → is_complete commands (Some (name, rows_of below)) ≡ true
named_complete found name below named rows complete =
    subst (λ (f : Option (Text × List Row)). is_complete commands f ≡ true) (sym (named_is found name below named rows)) complete

-- and the task is the one that it names
pub named_task : (found : Option (Text × List Row)) (name : Text) (below : Found) (task : Task) → option_map (λ p. p.0) found ≡ Some name
    → Some (rows_of below) ≡ option_map (λ p. p.1) found → Names (name, rows_of below) task → IsSomeAnd found (λ named. Names named task)
named_task found name below task named rows names =
    subst (λ (f : Option (Text × List Row)). IsSomeAnd f (λ named. Names named task)) (named_is found name below named rows) names

no_match : (own name : Text) → (name ≡ own → ⊥) → bytes_eq own name ≡ false
no_match own name other = go (bytes_eq own name) refl
  where
    go : (b : Bool) → bytes_eq own name ≡ b → b ≡ false
    go true same = absurd (other (sym ((bytes_eq-Decides own name).0 same)))
    go false same = refl

-- there are no other commands
pub no_other : (name : Text) (given : List Row) → is_complete commands (Some (name, given)) ≡ true → (name ≡ codes "trace" → ⊥) → (name ≡ codes "check" → ⊥)
    → (name ≡ codes "fmt" → ⊥) → (name ≡ codes "run" → ⊥) → (name ≡ codes "replay" → ⊥) → (name ≡ codes "explain" → ⊥) → (name ≡ codes "explore" → ⊥)
    → (name ≡ codes "verify" → ⊥) → (name ≡ codes "shrink" → ⊥) → (name ≡ codes "draw" → ⊥) → (name ≡ codes "step" → ⊥) → ⊥
no_other name given complete trace check fmt run replay explain explore verify shrink draw step =
    let none : false ≡ true =
    rw (
      no_match _ _ trace,
      no_match _ _ check,
      no_match _ _ fmt,
      no_match _ _ run,
      no_match _ _ replay,
      no_match _ _
          explain,
      no_match _ _ explore,
      no_match _ _ verify,
      no_match _ _ shrink,
      no_match _ _ draw,
      no_match _ _ step,
    )
    at complete in
    true≢false (sym none)
