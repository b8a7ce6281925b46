use Rattle.std.proofs.Common.{◌≡◌, ◌∙◌, ℕ, List, [], ◌∷◌, length, Some, ap, sym, arith}
use Rattle.std.specs.Prelude.{slice_get, option_and_then}
use Rattle.cml_scan.specs.declared.meet.Meet.{Meet}
use Rattle.cml_scan.specs.Scan.{scan_of, heads_of, partners_of, place_of}
use Rattle.cml_index.specs.Posts.{told}
use Rattle.cml_index.specs.Heads.{IsOnlyRow}
use Rattle.cml_hub.specs.Playing.{Rules, one_of, picked}
use Rattle.cml_hub.proofs.RowLemmas.{has_there}
use Rattle.cml_hub.proofs.pick.pick_row.Goals as goal

pub returns-in-Ok-clause-row : goal.returns-in-Ok-clause-row
returns-in-Ok-clause-row g c =
    let rows = scan_of c.args.table.now.entries (told c.args.table.now.flags) in
    let row = c.in-Ok.row in
    has_there rows row (c.a_picked_row_is_in_the_scan.ensures rows c.pick.result 0 (place_of row) row c.in-Ok.ensures.row.head
    (ap (λ rs. slice_get rs 0) c.in-Ok.ensures.row.only)).0

-- the only row of a head is picked where the head is
only_picked : {C : Type 0} (rules : Rules C) (chooser : C) (rows : List Meet) (row : Meet) (k : ℕ) → k ≡ rules.picks chooser (length (heads_of rows))
    → IsOnlyRow rows k row → rules.picks (rules.next chooser) 1 ≡ 0 → Some row ≡ picked rules chooser rows
only_picked rules chooser rows row k is only first =
    sym (ap (λ n. option_and_then (λ head. one_of rules (rules.next chooser) (partners_of rows head)) (slice_get (heads_of rows) n)) (sym is)
    ∙ ap (option_and_then (λ head. one_of rules (rules.next chooser) (partners_of rows head))) only.head
    ∙ ap (one_of rules (rules.next chooser)) only.only
    ∙ ap (slice_get (row ∷ [])) first)

pub returns-in-Ok-clause-picked : goal.returns-in-Ok-clause-picked
returns-in-Ok-clause-picked g c =
    let rows = scan_of c.args.table.now.entries (told c.args.table.now.flags) in
    let none : c.pick-first.result ≡ 0 = omega (arith, c.pick-first.ensures.below) in
    only_picked (record { picks = g.C.Chooser.picks; next = g.C.Chooser.next }) c.args.chooser.now rows c.in-Ok.row c.pick.result
    (c.pick.ensures.picked ∙ ap (g.C.Chooser.picks c.args.chooser.now) c.head_count-heads.ensures) c.in-Ok.ensures.row
    (ap (λ x. g.C.Chooser.picks x 1) (sym c.pick.ensures.next) ∙ sym c.pick-first.ensures.picked ∙ none)

pub returns-in-Err-clause-row : goal.returns-in-Err-clause-row
returns-in-Err-clause-row g c =
    let rows = scan_of c.args.table.now.entries (told c.args.table.now.flags) in
    has_there rows c.partner.result (c.a_picked_row_is_in_the_scan.ensures rows c.pick.result c.pick-in-Err.result c.in-Err.head c.partner.result c.in-Err.ensures.head c.partner.ensures).0
