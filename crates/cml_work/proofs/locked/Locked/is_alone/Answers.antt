use Rattle.std.proofs.Common.{IsTrue, Bool, true, false, subst}
use Rattle.std.specs.Prelude.{not}
use Rattle.cml_hub.specs.Kept.{Kept, NoneOut}
use Rattle.cml_work.specs.Held.{Held}
use Rattle.cml_work.proofs.Finding.{none_out_of}
use Rattle.cml_work.proofs.locked.Locked.is_alone.Goals as goal

-- none is out where it is not so that one is
none_out : (h : Kept) (b : Bool) → IsTrue (not b) → ((NoneOut h → ⊥) → IsTrue b) → NoneOut h
none_out h true is out = absurd (cc is)
none_out h false is out = none_out_of h (λ none. absurd (cc (out none)))

pub returns-then-not-are_wanted-clause-none_out : goal.returns-then-not-are_wanted-clause-none_out
returns-then-not-are_wanted-clause-none_out g c = λ is.
    subst (λ (held : Held). NoneOut held.hub) c.self.view_is (none_out c.self.inside.hub c.has_out.result is c.has_out.ensures.1)
