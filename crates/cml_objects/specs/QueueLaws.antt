-- A send never empties a queue.
use Rattle.std.specs.Prelude.{◌≡◌, ◌++◌, ◌∷◌, [], List, if◌then◌else◌, true, false, IsTrue, Ok, Err}
use Rattle.cml_value.specs.Value.{PlainValue}
use Rattle.cml_objects.specs.Feeds.{full}
use Rattle.cml_objects.specs.Queues.{queued, is_at_limit, is_filled}

pub queued_stays_lit : (s t : List PlainValue) (v : PlainValue) → queued s v ≡ Ok t → IsTrue (is_filled s) → IsTrue (is_filled t)
queued_stays_lit [] t v e h = cc
queued_stays_lit (x ∷ xs) t v e h =
    elim (is_at_limit (x ∷ xs)) as (λ b. ((if b then Err full else Ok ((x ∷ xs) ++ v ∷ [])) ≡ Ok t) → IsTrue (is_filled t)) [ true ↦ (λ q. cc) | false ↦ (λ q. cc) ] e
