use Rattle.std.proofs.Common.{◌≡◌, ◌∙◌, ◌∷◌, [], Some, ap, sym}
use Rattle.cml_scan.specs.Scan.{scan_of, partners_of, place_of}
use Rattle.cml_index.specs.Posts as spec
use Rattle.cml_index.proofs.index.OfferIndex.head_or_row_tallied.Goals as goal

pub returns-in-Some-clause-row : goal.returns-in-Some-clause-row
returns-in-Some-clause-row c =
    let rows = scan_of c.self.inside.core.entries.items (spec.told c.self.inside.core.flags.entries) in
    let place : place_of c.in-Some.row ≡ c.head_tallied-head.result = c.in-Some.ensures.place in
    let only : partners_of rows c.head_tallied-head.result ≡ c.in-Some.row ∷ [] = c.in-Some.ensures.only in
    record {
      head = c.head_tallied-head.ensures.value ∙ ap Some (sym place);
      only = rw (← c.self.view_is) (ap (partners_of rows) place ∙ only);
    }
