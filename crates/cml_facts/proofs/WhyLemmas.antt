-- Why an item can't happen.
use Rattle.std.proofs.Common.{◌≡◌, ℕ, ◌+◌, ◌<◌, ◌≤◌, cond, Bool, false, List, length, get_or, drop, Some, None, sym, ap, ◌∙◌}
use Rattle.std.specs.Prelude.{slice_get}
use Rattle.std.specs.Option.{option_map_or}
use Rattle.std.proofs.lemmas.List.{at_drop_more, at_drop_all}
use Rattle.std.proofs.lemmas.Option.{slice_get-get_or}
use Rattle.cml_scan.specs.World.{PlainThread, running}
use Rattle.cml_book.specs.Walks.{runs}
use Rattle.cml_facts.specs.Whys.{first_running}

-- the thread at this place runs, or one behind it is the first
pub runs_first : (threads : List PlainThread) (i : ℕ) (b : Bool) → i < length threads → b ≡ option_map_or runs (slice_get threads i) false →
    first_running i (drop i threads) ≡ cond b (Some i) (first_running (i + 1) (drop (i + 1) threads))
runs_first threads i b h is =
    let e : runs (get_or threads i running) ≡ b = sym (ap (λ x. option_map_or runs x false) (slice_get-get_or threads i running h)) ∙ sym is in
    at_drop_more (first_running i) threads i running h ∙ ap (λ c. cond c (Some i) (first_running (i + 1) (drop (i + 1) threads))) e

pub none_first : (threads : List PlainThread) (i : ℕ) → length threads ≤ i → first_running i (drop i threads) ≡ None
none_first threads i h = at_drop_all (first_running i) threads i h
