-- Stories, item by item, and how they are told.
use Rattle.std.proofs.Common.{◌≡◌, ◌∙◌, ◌⊎◌, ◌+◌, ◌<◌, ◌≤◌, ℕ, Bool, true, false, List, [], ◌∷◌, ◌++◌, Option, length, take, drop, get_or, inl, inr, refl, sym, ap, subst, arith}
use Rattle.std.proofs.lemmas.List.{take_more, take_all, take-append-drop, drop_more, drop_all, get_or_default, length-take-le}
use Rattle.cml_hub.specs.Courses.{PlainCourse, Adds}
use Rattle.cml_hub.specs.Kept.{Kept, IsFollowed}
use Rattle.cml_hub.specs.Runs.{is_allowed}
use Rattle.cml_picture.specs.Draws.{ItemsLead}
use Rattle.cml_schedule.specs.declared.item.Item.{Item}
use Rattle.cml_stream.specs.Streams.{Stream, stream}
use Rattle.cml_host.specs.Behind.{bytes_of}
use Rattle.cml_host.specs.Narrated.{EndReplied, HasToldFirst, IsCutBy, IsCutReply, IsHeldUp, ItemRefused, PlanTold, StoryEnds, Writes}
use Rattle.cml_host.specs.Replies.{Moment, Passage, PlainReply, runs_out}
use Rattle.cml_host.specs.declared.explain.Halt.{Halt}
use Rattle.cml_host.specs.declared.explain.Halt.TheVariants.{Memory, Write}
use Rattle.cml_host.proofs.WriteLemmas.{writes_none, writes_on}

-- an item by its number, whatever stands past the end
pub item_at : (items : List Item) (i : ℕ) (d : Item) → i < length items → get_or items i d ≡ get_or items i (get_or items i d)
item_at items i d h = get_or_default items i d (get_or items i d) h

-- ---- items, one after another

leads_more : (c d e : PlainCourse) (items : List Item) (item : Item) → ItemsLead c items d → Adds d item e → ItemsLead c (items ++ item ∷ []) e
leads_more c d e [] item same adds = (e, subst (λ (x : PlainCourse). Adds x item e) same adds, refl)
leads_more c d e (first ∷ items) item (next, came, leads) adds = (next, came, leads_more next d e items item leads adds)

-- the items so far have happened, and some text was written
pub record Goes (start : Kept) (items : List Item) (count : ℕ) (h : Kept) (output : Stream) : Type 0 where
  pub budget : h.budget ≡ start.budget
  pub leads : ItemsLead start.course (take count items) h.course
  pub wrote : Writes output

pub goes_none : (h : Kept) (items : List Item) (a : Option (List ℕ)) → Goes h items 0 h (stream a a)
goes_none h items a = record { budget = refl; leads = refl; wrote = writes_none a }

pub goes_on : (start : Kept) (items : List Item) (count : ℕ) (item : Item) (old new : Kept) (came : Bool) (a b d : Option (List ℕ)) → count < length items →
    item ≡ get_or items count item → came ≡ true → Goes start items count old (stream a b) → IsFollowed old item came new → Writes (stream b d) →
    Goes start items (count + 1) new (stream a d)
goes_on start items count item old new true a b d within is so goes follows more =
    let taken : take count items ++ item ∷ [] ≡ take (count + 1) items =
    ap (λ x. take count items ++ x ∷ []) is ∙ sym (take_more items count item within) in
    record {
      budget = follows.budget ∙ goes.budget;
      leads = subst (λ (xs : List Item). ItemsLead start.course xs new.course) taken
          (leads_more start.course old.course new.course (take count items) item goes.leads follows.course);
      wrote = writes_on a b d goes.wrote more;
    }
goes_on start items count item old new false a b d within is so goes follows more = cc

-- an item did not come
pub told_until : (start : Kept) (items : List Item) (count : ℕ) (item : Item) (old new : Kept) (came : Bool) (output : Passage) → count < length items →
    item ≡ get_or items count item → came ≡ false → Goes start items count old (bytes_of output) → IsFollowed old item came new → output.new.failed ≡ output.old.failed →
    HasToldFirst start items count new output
told_until start items count item old new true output within is so goes follows fine = cc
told_until start items count item old new false output within is so goes follows fine =
    let same : new.course ≡ old.course = follows.course.1 in
    let left : drop count items ≡ item ∷ drop (count + 1) items = drop_more items count item within ∙ ap (λ x. x ∷ drop (count + 1) items) (sym is) in
    let held : IsHeldUp (item ∷ drop (count + 1) items) new.course = subst (λ (c : PlainCourse). is_allowed c.world item ≡ false) (sym same) follows.course.0 in
    record {
      counted = omega arith;
      budget = follows.budget ∙ goes.budget;
      held_up = subst (λ (xs : List Item). IsHeldUp xs new.course) (sym left) held;
      leads = subst (λ (c : PlainCourse). ItemsLead start.course (take count items) c) (sym same) goes.leads;
      wrote = goes.wrote;
      fine = fine;
    }

pub told_all : (start : Kept) (items : List Item) (count : ℕ) (h : Kept) (output : Passage) → length items ≤ count →
    Goes start items count h (bytes_of output) → output.new.failed ≡ output.old.failed → HasToldFirst start items (length items) h output
told_all start items count h output past goes fine =
    let whole : take count items ≡ take (length items) items = take_all count items past ∙ sym (take_all (length items) items (omega arith)) in
    record {
      counted = omega arith;
      budget = goes.budget;
      held_up = subst (λ (xs : List Item). IsHeldUp xs h.course) (sym (drop_all (length items) items (omega arith))) tt;
      leads = subst (λ (xs : List Item). ItemsLead start.course xs h.course) whole goes.leads;
      wrote = goes.wrote;
      fine = fine;
    }

-- the last piece was written
pub told_written : (start : Kept) (items : List Item) (count : ℕ) (h : Kept) (a b d : Moment) → HasToldFirst start items count h (record { old = a; new = b }) →
    Writes (stream b.bytes d.bytes) → d.failed ≡ b.failed → HasToldFirst start items count h (record { old = a; new = d })
told_written start items count h a b d told then fine = record {
  counted = told.counted;
  budget = told.budget;
  held_up = told.held_up;
  leads = told.leads;
  wrote = writes_on a.bytes b.bytes d.bytes told.wrote then;
  fine = fine ∙ told.fine;
}

-- ---- what was told in all

-- the items are the first ones and those that are left
split_at : (items : List Item) (count : ℕ) → items ≡ take count items ++ drop count items
split_at items count = sym (take-append-drop count items)

-- all items were told, and then how the run ended
pub plan_ended : (items : List Item) (start h : Kept) (count : ℕ) (output : Passage) (reply : PlainReply) → length items ≤ count → HasToldFirst start items count h output →
    EndReplied reply → PlanTold items start output reply
plan_ended items start h count output reply past told ended =
    let none : drop count items ≡ [] = drop_all count items past in
    (take count items, drop count items, split_at items count, (h, told.budget, told.leads, told.wrote, inl (told.fine, go none ended)))
  where
    go : drop count items ≡ [] → EndReplied reply → StoryEnds (drop count items) (length (take count items)) h reply ⊎ (reply ≡ runs_out [])
    go none (inl words) = inl (subst (λ (xs : List Item). StoryEnds xs (length (take count items)) h reply) (sym none) words)
    go none (inr memory) = inr memory

-- an item can't happen
pub plan_held_up : (items : List Item) (start h : Kept) (count : ℕ) (item : Item) (output : Passage) (reply : PlainReply) → count < length items → item ≡ get_or items count item →
    HasToldFirst start items count h output → ItemRefused (count + 1) reply → PlanTold items start output reply
plan_held_up items start h count item output reply within is told refused =
    let left : drop count items ≡ item ∷ drop (count + 1) items = drop_more items count item within ∙ ap (λ x. x ∷ drop (count + 1) items) (sym is) in
    let held : IsHeldUp (item ∷ drop (count + 1) items) h.course = subst (λ (xs : List Item). IsHeldUp xs h.course) left told.held_up in
    let many : count ≡ length (take count items) = sym (length-take-le count items told.counted) in
    (take count items, drop count items, split_at items count, (h, told.budget, told.leads, told.wrote, inl (told.fine, go left many held refused)))
  where
    go : drop count items ≡ item ∷ drop (count + 1) items → count ≡ length (take count items) → IsHeldUp (item ∷ drop (count + 1) items) h.course →
        ItemRefused (count + 1) reply → StoryEnds (drop count items) (length (take count items)) h reply ⊎ (reply ≡ runs_out [])
    go left many held (inl said) = inl (subst (λ (xs : List Item). StoryEnds xs (length (take count items)) h reply) (sym left)
        (subst (λ (n : ℕ). StoryEnds (item ∷ drop (count + 1) items) n h reply) many (held, said)))
    go left many held (inr memory) = inr memory

-- the story was cut off: nothing is said of how far it went
pub plan_cut : (items : List Item) (start : Kept) (why : Halt) (output : Passage) (reply : PlainReply) → IsCutBy why output → IsCutReply why reply → PlanTold items start output reply
plan_cut items start Memory output reply cut is = ([], items, refl, (start, refl, refl, cut.0, inl (cut.1, inr is)))
plan_cut items start Write output reply cut is = ([], items, refl, (start, refl, refl, cut.0, inr (cut.1, is)))
