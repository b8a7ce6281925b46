use Rattle.std.proofs.Common.{◌∙◌, ◌-◌, ◌<◌, length, get_or, refl, ap, subst, arith}
use Rattle.std.specs.Prelude.{slice_get}
use Rattle.std.specs.List.{list_any}
use Rattle.std.proofs.lemmas.Option.{slice_get_read}
use Rattle.cml_scan.specs.declared.meet.Place.{Place}
use Rattle.cml_objects.specs.declared.lane.PartnerThreads.TheVariants.{Above}
use Rattle.cml_objects.specs.Lanes.{is_of}
use Rattle.cml_index.proofs.Parted.{filter_fewer}
use Rattle.cml_index.proofs.Beside.{above_among}
use Rattle.cml_index.proofs.OneObject.{behind_at, low_get}
use Rattle.cml_index.proofs.one_object.head_below.Goals as goal

pub look-requires : goal.look-requires
look-requires c =
    let ps = c.args.lane.now.places in
    let fewer = filter_fewer (λ (q : Place). list_any (is_of (Above q.tid)) ps) ps in
    omega (arith, fewer, c.requires.within)

pub returns : goal.returns
returns c = record {
  found = record {
    value =
        let ps = c.args.lane.now.places in
        let r = c.look.result in
        let fewer = filter_fewer (λ (q : Place). list_any (is_of (Above q.tid)) ps) ps in
        let among = above_among ps ps r c.requires.sorted (omega (arith, fewer, c.requires.within)) in
        ap (λ qs. slice_get qs c.args.k) among ∙ low_get ps (get_or ps (length ps - 1) r).tid.0 c.args.k c.requires.sorted (subst (λ qs. c.args.k < length qs) among c.requires.within)
        ∙ slice_get_read ps (length ps) c.args.k r refl (omega (arith, fewer, c.requires.within)) c.look.ensures.value;
    early =
        let ps = c.args.lane.now.places in
        let r = c.look.result in
        let fewer = filter_fewer (λ (q : Place). list_any (is_of (Above q.tid)) ps) ps in
        let few = behind_at ps c.args.k r c.requires.sorted (slice_get_read ps (length ps) c.args.k r refl (omega (arith, fewer, c.requires.within)) c.look.ensures.value) in
        omega (arith, few, c.look.ensures.most);
  };
}
