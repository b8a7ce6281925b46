use Rattle.std.proofs.Common.{◌≡◌, List, get_or, map, refl, subst}
use Rattle.cml_host.specs.Replies.{HasSavedSome, passage, plain_file}
use Rattle.cml_host.specs.Stores.{Shelf}
use Rattle.cml_host.specs.declared.reply.File.{File}
use Rattle.cml_host.proofs.ReplyLemmas.{kept_some}
use Rattle.cml_host.proofs.reply.keep.Goals as goal

pub returns-in-Err-clause-kept : goal.returns-in-Err-clause-kept
returns-in-Err-clause-kept g c =
    let store : Shelf = record { before = g.S.Store.holds c.args.store.now; after = g.S.Store.holds c.save_all.new.store } in
    let f = c.index-files-unsaved.result in
    let n = c.in-Err.unsaved.count in
    let same = c.as_slice-files.ensures.value in
    kept_some c.args.reply.now n f (passage g.E.Write.contents c.args.err.now c.tell_unsaved.new.err) store 1
    (subst (λ (fs : List File). f ≡ get_or fs n f) same c.index-files-unsaved.is)
    (subst (λ (fs : List File). HasSavedSome (map plain_file fs) n store.before store.after) same c.in-Err.ensures.err) c.tell_unsaved.ensures.said refl
