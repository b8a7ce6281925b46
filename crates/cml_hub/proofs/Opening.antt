-- A course at its beginning.
use Rattle.std.proofs.Common.{◌≡◌, ℕ, List, [], ◌∷◌, map, refl, ap, sym, ◌∙◌, Some, Ok}
use Rattle.std.specs.Prelude.{codes, unwrap_or}
use Rattle.cml_value.specs.declared.number.Tid.{Tid}
use Rattle.cml_scan.specs.World.{PlainWorld}
use Rattle.cml_book.specs.Spawn.{spawn}
use Rattle.cml_book.specs.Step.{empty_world}
use Rattle.cml_step.specs.Terms.{Program}
use Rattle.cml_check.specs.Heads.{numbered}
use Rattle.cml_check.specs.InOrder.{names_of}
use Rattle.cml_check.specs.Syntax.{PlainItem}
use Rattle.cml_step.specs.Calls.{text_of}
use Rattle.cml_hub.specs.Runs.{main_of, opening}

names_written : (p : List (PlainItem ℕ)) → map (λ f. f.name) (text_of p) ≡ names_of p
names_written [] = refl
names_written (f ∷ p) = ap (λ names. f.name ∷ names) (names_written p)

-- the number of `main` is the one that the program tells
pub main_is : (p : List (PlainItem ℕ)) (n : ℕ) → numbered (names_of p) (codes "main") ≡ Some n → main_of (text_of p) ≡ n
main_is p n h = ap (λ names. unwrap_or (numbered names (codes "main")) 0) (names_written p) ∙ ap (λ o. unwrap_or o 0) h

-- the first thread of an empty world
pub spawned_first : (p : Program) (empty new : PlainWorld) (t : Tid) → empty ≡ empty_world → spawn empty ≡ Ok (new, t) → new ≡ (opening p).world
spawned_first p empty new t none e =
    let f = rw none at e in
    let g : ((opening p).world, record { 0 = 0 }) ≡ (new, t) = cc in
    ap (λ (x : PlainWorld × Tid). x.0) (sym g)
