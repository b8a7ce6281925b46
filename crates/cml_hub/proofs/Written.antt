-- What is written of a hub's schedule is read as it.
use Rattle.std.proofs.Common.{◌≡◌, ℕ, List, Ok, Some, sym, subst}
use Rattle.std.specs.List.{All}
use Rattle.cml_check.specs.Syntax.{PlainItem}
use Rattle.cml_check.specs.Sizes.{size_of, IsWithinSize}
use Rattle.cml_check.specs.declared.size.Size.{Size}
use Rattle.cml_schedule.specs.declared.item.Item.{Item}
use Rattle.cml_schedule.specs.Laws.{IsWritable, WrittenIsRead}
use Rattle.cml_schedule.specs.Written.{schedule_text}
use Rattle.cml_schedule.specs.Reading.{ScheduleReadsAs}
use Rattle.cml_hub.specs.Kept.{IsBudget}

pub written : WrittenIsRead → (bytes : List ℕ) (budget : ℕ) (size : Size) (items copy : List Item) (p : List (PlainItem ℕ)) → bytes ≡ schedule_text budget size copy → copy ≡ items
    → size ≡ size_of p → IsWithinSize size → IsBudget budget → All IsWritable items
    → ScheduleReadsAs bytes (Ok (record { budget = budget; size = Some (size_of p); items = items }))
written law bytes budget size items copy p text same is within range writable =
    let t : bytes ≡ schedule_text budget size items = subst (λ x. bytes ≡ schedule_text budget size x) same text in
    let r = law budget size items (record { some = range.0; most = range.1; within = within }) writable in
    subst (λ s. ScheduleReadsAs bytes (Ok (record { budget = budget; size = Some s; items = items }))) is
    (subst (λ b. ScheduleReadsAs b (Ok (record { budget = budget; size = Some size; items = items }))) (sym t) r)
