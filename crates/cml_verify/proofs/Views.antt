-- A view has the schedules of the whole.
use Rattle.std.proofs.Common.{◌≡◌, List, [], ◌∷◌, Option, None, Some, refl, ap, ◌∙◌}
use Rattle.std.specs.Prelude.{option_and_then, option_map}
use Rattle.cml_verify.specs.Systems.{System, run, IsReached}
use Rattle.cml_verify.specs.Laws.{IsView, SeesSchedules}
use Rattle.cml_verify.proofs.Runs.{reached_next}

module _ {S T I : Type 0} (y : System S I) (z : System T I) (view : S → T) (is : IsView y z view) where
  -- the rest of a schedule, where it is known of each first step
  seen_by : (items : List I) (o : Option S) → ((t : S) → o ≡ Some t → run z (view t) items ≡ option_map view (run y t items))
      → option_and_then (λ t. run z t items) (option_map view o) ≡ option_map view (option_and_then (λ t. run y t items) o)
  seen_by items None rest = refl
  seen_by items (Some t) rest = rest t refl

  seen_from : (items : List I) (s : S) → IsReached y s → run z (view s) items ≡ option_map view (run y s items)
  seen_from [] s r = refl
  seen_from (i ∷ items) s r =
      ap (λ o. option_and_then (λ t. run z t items) o) (is.step s i r) ∙ seen_by items (y.step s i) (λ t e. seen_from items t (reached_next y s i t r e))

  pub sees_schedules : SeesSchedules y z view
  sees_schedules items = ap (λ t. run z t items) is.start ∙ seen_from items y.start ([], refl)
