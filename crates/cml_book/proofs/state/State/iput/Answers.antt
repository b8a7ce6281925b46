use Rattle.std.proofs.Common.{◌≡◌, ◌∙◌, ◌<◌, length, true, refl, sym, arith}
use Rattle.cml_value.specs.Limits.{value_fits}
use Rattle.cml_book.proofs.ObjectLemmas.{stays_kept, same_variables, put_done, iput_true, iput_does}
use Rattle.cml_book.specs.contracts.state.State.{the_view}
use Rattle.cml_book.proofs.state.State.iput.Goals as goal

pub returns-in-Err-clause-kept : goal.returns-in-Err-clause-kept
returns-in-Err-clause-kept g c =
    let same = same_variables c.feed.new.objects.objects c.self.inside.ivars.objects c.in-Err.ensures.states.err in
    rw (← c.self.view_is) (stays_kept _ _ _ _ _ _ refl refl c.in-Err.ensures.told.entries (rw same (λ l t. c.in-Err.ensures.told.err l ∙ t)))

pub returns-clause-step : goal.returns-clause-step
returns-clause-step g c =
    let there : c.args.ivar.0 < length c.self.inside.ivars.objects = omega (arith, c.if-ivar-len.false, c.len.ensures) in
    let fits : value_fits c.args.value ≡ true = sym c.fits.ensures ∙ c.if-not-fits.false in
    let empty = sym c.ivar_is_full.ensures ∙ c.if-ivar_is_full.false in
    let done = put_done c.self.inside.ivars.objects c.feed.new.objects.objects c.args.ivar.0 c.args.value there empty c.in_default.ensures.states.ok in
    rw (← c.self.view_is, done) (iput_does _ c.args.ivar.0 c.args.value there empty fits)

pub returns-clause-kept : goal.returns-clause-kept
returns-clause-kept g c =
    let there : c.args.ivar.0 < length c.self.inside.ivars.objects = omega (arith, c.if-ivar-len.false, c.len.ensures) in
    let empty = sym c.ivar_is_full.ensures ∙ c.if-ivar_is_full.false in
    let done = put_done c.self.inside.ivars.objects c.feed.new.objects.objects c.args.ivar.0 c.args.value there empty c.in_default.ensures.states.ok in
    rw (← c.self.view_is, done) (stays_kept _ _ _ _ _ _ refl refl c.in_default.ensures.told.entries
    (iput_true (the_view c.self.inside) _ _ c.args.ivar c.args.value there empty c.in_default.ensures.told.ok))
