-- A sheet, of what is shown and of its lines.
use Rattle.std.proofs.Common.{◌≡◌, ℕ, List, length, ap, sym, subst, ◌∙◌}
use Rattle.cml_schedule.specs.declared.item.Item.{Item}
use Rattle.cml_hub.specs.Courses.{PlainCourse}
use Rattle.cml_phrase.specs.declared.place.Place.{Place}
use Rattle.cml_picture.specs.Stacks.{PlainStack}
use Rattle.cml_picture.specs.Sheets.{PlainSheet}
use Rattle.cml_picture.specs.Lives.{with_lines}
use Rattle.cml_picture.specs.Draws.{IsRangeShown, IsSheet, items_within}

-- it is of these items
sheet_of_these : (places : List (List Place)) (start : PlainCourse) (items : List Item) (from to before : ℕ) (end : PlainCourse) (stack : PlainStack) (sheet : PlainSheet) →
    IsRangeShown places start items from to before end stack → sheet ≡ with_lines end (items_within from to items) (length items) before stack →
    IsSheet places start items from to end sheet
sheet_of_these places start items from to before end stack sheet shown is =
    let same : stack ≡ sheet.stack = sym (ap (λ (x : PlainSheet). x.stack) is) in
    record {
      before = before;
      shown = subst (λ s. IsRangeShown places start items from to before end s) same shown;
      lines = is ∙ ap (λ s. with_lines end (items_within from to items) (length items) before s) same;
    }

-- the same, by what is known of the places, of those items that are shown and of how many there are
pub sheet_made : (places now : List (List Place)) (start : PlainCourse) (items within : List Item) (from to count before : ℕ) (end : PlainCourse) (stack : PlainStack) (sheet : PlainSheet) →
    now ≡ places → within ≡ items_within from to items → count ≡ length items →
    IsRangeShown now start items from to before end stack → sheet ≡ with_lines end within count before stack → IsSheet places start items from to end sheet
sheet_made places now start items within from to count before end stack sheet same are many shown is =
    let ours = subst (λ (x : List (List Place)). IsRangeShown x start items from to before end stack) same shown in
    let lines : sheet ≡ with_lines end (items_within from to items) (length items) before stack =
    is ∙ (ap (λ xs. with_lines end xs count before stack) are ∙ ap (λ n. with_lines end (items_within from to items) n before stack) many) in
    sheet_of_these places start items from to before end stack sheet ours lines
