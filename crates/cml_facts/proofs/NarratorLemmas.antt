-- What a narrator knows, and what it tells.
use Rattle.std.proofs.Common.{◌≡◌, ℕ, Bool, true, false, List, [], ◌∷◌, ◌++◌, None, refl, sym, ap, ◌∙◌, IsTrue, append-nil}
use Rattle.cml_check.specs.Syntax.{PlainItem}
use Rattle.cml_step.specs.Calls.{text_of}
use Rattle.cml_schedule.specs.declared.item.Item.{Item}
use Rattle.cml_hub.specs.Runs.{is_allowed}
use Rattle.cml_hub.specs.Courses.{PlainCourse, Comes}
use Rattle.cml_hub.specs.Kept.{Kept, IsFollowed}
use Rattle.cml_facts.specs.declared.ending.takers.Takers.{Takers}
use Rattle.cml_facts.specs.Takes.{KnowsTakers, taker_in, last_taker, takes_of}

-- an item that is not allowed does not come
pub unfollowed : (old : Kept) (item : Item) → is_allowed old.course.world item ≡ false → IsFollowed old item false old
unfollowed old item h = record { budget = refl; watch = refl; made = []; reports = sym (append-nil old.reports); course = (h, refl) }

-- who took last is known on
pub followed_knows : (old new : PlainCourse) (item : Item) (came : Bool) (takers : Takers) → Comes old item came new → KnowsTakers (text_of old.program) (old.items ++ item ∷ []) takers →
    IsTrue came → KnowsTakers (text_of new.program) new.items takers
followed_knows old new item true takers comes knows is = rw (comes.program, comes.items) knows
followed_knows old new item false takers comes knows is = absurd cc

pub begun_knows : (p : List (PlainItem ℕ)) (items : List Item) (takers : Takers) → items ≡ [] → ((m : ℕ) → taker_in takers m ≡ None) → KnowsTakers (text_of p) items takers
begun_knows p items takers none h = λ m. h m ∙ ap (λ is. last_taker (takes_of (text_of p) is) m) (sym none)
