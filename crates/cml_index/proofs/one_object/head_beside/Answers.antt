use Rattle.std.proofs.Common.{◌≡◌, ◌∙◌, ◌<◌, length, Some, None, refl, ap, sym, subst, arith}
use Rattle.std.specs.Prelude.{slice_get}
use Rattle.std.specs.List.{filter, list_any}
use Rattle.std.proofs.lemmas.Option.{slice_get_read}
use Rattle.cml_scan.specs.declared.meet.Place.{Place}
use Rattle.cml_objects.specs.Lanes.{is_own, is_others}
use Rattle.cml_index.specs.Heads.{is_beside}
use Rattle.cml_index.proofs.Beside.{among_is, all_stay}
use Rattle.cml_index.proofs.OneObject.{behind_at, own_and_others}
use Rattle.cml_index.proofs.one_object.head_beside.Goals as goal

pub first_other-requires-clause-some : goal.first_other-requires-clause-some
first_other-requires-clause-some c =
    let hs = c.args.heads.now.places in
    let same = subst (λ o. (q : Place) → list_any (is_others q.tid) c.args.others.now.places ≡ is_beside o q) c.in-Some.is c.only_thread.ensures.value in
    let among = among_is c.args.others.now.places hs (Some c.in-Some.tid) same in
    let within = subst (λ qs. c.args.k < length qs) among c.requires.within in
    omega (arith, within)

pub returns-then-k-eq0 : goal.returns-then-k-eq0
returns-then-k-eq0 c = record {
  found = record {
    value =
        let hs = c.args.heads.now.places in
        let same = subst (λ o. (q : Place) → list_any (is_others q.tid) c.args.others.now.places ≡ is_beside o q) c.in-Some.is c.only_thread.ensures.value in
        let among = among_is c.args.others.now.places hs (Some c.in-Some.tid) same in
        ap (λ qs. slice_get qs c.args.k) among ∙ ap (slice_get (filter (is_others c.in-Some.tid) hs)) c.if-k-eq0.true ∙ c.first_other.ensures.value;
    early = omega (arith, c.only_thread.ensures.cost, c.first_other.ensures.cost, c.first_other.ensures.ahead);
  };
}

pub other_at-requires-clause-own : goal.other_at-requires-clause-own
other_at-requires-clause-own c =
    let hs = c.args.heads.now.places in
    let tid = c.in-Some.tid in
    let own : c.own_len-own.result ≡ length (filter (is_own tid) hs) = c.own_len-own.ensures
    ∙ ap (λ ps. length (filter (is_own tid) ps)) (sym c.requires.there) in
    let sum = own_and_others tid hs in
    omega (arith, own, sum)

pub other_at-requires-clause-within : goal.other_at-requires-clause-within
other_at-requires-clause-within c =
    let hs = c.args.heads.now.places in
    let same = subst (λ o. (q : Place) → list_any (is_others q.tid) c.args.others.now.places ≡ is_beside o q) c.in-Some.is c.only_thread.ensures.value in
    let among = among_is c.args.others.now.places hs (Some c.in-Some.tid) same in
    subst (λ qs. c.args.k < length qs) among c.requires.within

pub returns-else-k-eq0 : goal.returns-else-k-eq0
returns-else-k-eq0 c = record {
  found = record {
    value =
        let hs = c.args.heads.now.places in
        let same = subst (λ o. (q : Place) → list_any (is_others q.tid) c.args.others.now.places ≡ is_beside o q) c.in-Some.is c.only_thread.ensures.value in
        let among = among_is c.args.others.now.places hs (Some c.in-Some.tid) same in
        ap (λ qs. slice_get qs c.args.k) among ∙ c.other_at.ensures.value;
    early = omega (arith, c.only_thread.ensures.cost, c.other_at.ensures.cost, c.other_at.ensures.ahead);
  };
}

pub look-requires : goal.look-requires
look-requires c =
    let hs = c.args.heads.now.places in
    let same = subst (λ o. (q : Place) → list_any (is_others q.tid) c.args.others.now.places ≡ is_beside o q) c.in-None.is c.only_thread.ensures.value in
    let among = among_is c.args.others.now.places hs None same ∙ all_stay hs in
    let within = subst (λ qs. c.args.k < length qs) among c.requires.within in
    within

pub returns-in-None : goal.returns-in-None
returns-in-None c = record {
  found = record {
    value =
        let hs = c.args.heads.now.places in
        let same = subst (λ o. (q : Place) → list_any (is_others q.tid) c.args.others.now.places ≡ is_beside o q) c.in-None.is c.only_thread.ensures.value in
        let among = among_is c.args.others.now.places hs None same ∙ all_stay hs in
        let within = subst (λ qs. c.args.k < length qs) among c.requires.within in
        ap (λ qs. slice_get qs c.args.k) among ∙ slice_get_read hs (length hs) c.args.k c.look.result refl within c.look.ensures.value;
    early =
        let hs = c.args.heads.now.places in
        let same = subst (λ o. (q : Place) → list_any (is_others q.tid) c.args.others.now.places ≡ is_beside o q) c.in-None.is c.only_thread.ensures.value in
        let among = among_is c.args.others.now.places hs None same ∙ all_stay hs in
        let within = subst (λ qs. c.args.k < length qs) among c.requires.within in
        let few = behind_at hs c.args.k c.look.result c.requires.heads (slice_get_read hs (length hs) c.args.k c.look.result refl within c.look.ensures.value) in
        omega (arith, few, c.only_thread.ensures.cost, c.look.ensures.most);
  };
}
