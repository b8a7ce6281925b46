-- Checking one part after another.
use Rattle.std.proofs.Common.{◌≡◌, ℕ, suc, ◌+◌, ◌<◌, List, ◌∷◌, drop, length, get_or, Ok, Err, refl, ap, sym, subst, ◌∙◌, add-one}
use Rattle.std.proofs.Math.Seq.{drop-cons}
use Rattle.cml_check.specs.declared.fault.CheckFault.{CheckFault}
use Rattle.cml_check.specs.declared.fault.CheckFault.TheVariants as fault
use Rattle.cml_check.specs.Checked.{Checked, ◌>>=◌, Fails}

-- two parts and then a third are one part and then two
pub after : {A B C : Type 0} (r : Checked A) (f : A → Checked B) (g : B → Checked C) → ((r >>= f) >>= g) ≡ (r >>= λ x. f x >>= g)
after (Ok x) f g = refl
after (Err e) f g = refl

-- where the first part fails, both do
pub fails-bind : {A B : Type 0} (e : CheckFault) (r : Checked A) (f : A → Checked B) → Fails e r → Fails e (r >>= f)
fails-bind fault.Memory r f h = tt
fails-bind (fault.At kind at) r f h = rw h refl

pub fails-as : {A B : Type 0} (e : CheckFault) (r : Checked A) (f : A → Checked B) (whole : Checked B) → (r >>= f) ≡ whole → Fails e r → Fails e whole
fails-as e r f whole is h = subst (λ (x : Checked _). Fails e x) is (fails-bind e r f h)

-- what is left from a place on begins with what stands there
pub drop-at : {A : Type 0} (xs : List A) (i : ℕ) (x : A) → i < length xs → x ≡ get_or xs i x → drop i xs ≡ x ∷ drop (i + 1) xs
drop-at xs i x lt is = rw (add-one) (drop-cons xs i x lt ∙ ap (λ y. y ∷ drop (suc i) xs) (sym is))
