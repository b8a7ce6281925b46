-- The instruction at a place of a function.
use Rattle.std.proofs.Common.{◌≡◌, ℕ, ◌<◌, ◌≤◌, true, List, length, get_or, map, sym, ap, ◌∙◌, subst, arith}
use Rattle.std.proofs.lemmas.List.{length-map, get_or-map}
use Rattle.cml_check.specs.Syntax.{PlainStmts, no_stmts}
use Rattle.cml_check.specs.Sizes.{stmts_count}
use Rattle.cml_check.specs.InOrder.{stmts_fit}
use Rattle.cml_check.specs.Layout.{code_of, left}
use Rattle.cml_check.specs.Follows.{Follows, instr_fits}
use Rattle.cml_check.specs.InstrViews.{plain_instr}
use Rattle.cml_check.specs.Ops.{OpFollows, op_fits, AreShort}
use Rattle.cml_check.specs.declared.instr.Instr.{Instr}
use Rattle.cml_check.specs.declared.flat.Op.{Op}
use Rattle.cml_check.specs.Layout.{PlainInstr, return_then}
use Rattle.cml_check.specs.Syntax.{variable}
use Rattle.cml_check.proofs.OpLemmas.{length_shorts, short_at}
use Rattle.cml_check.proofs.Walk.{length_code, follows, left_past}
use Rattle.cml_check.proofs.Fit.{fit_at}

many : (items : List Instr) (b : PlainStmts ℕ) → map plain_instr items ≡ code_of b → length items ≡ stmts_count b
many items b e = sym (length-map items plain_instr) ∙ ap length e ∙ length_code b

found : (items : List Instr) (b : PlainStmts ℕ) (at : ℕ) (i : Instr) → map plain_instr items ≡ code_of b → at < length items → i ≡ get_or items at i →
    get_or (code_of b) at (plain_instr i) ≡ plain_instr i
found items b at i e lt is = ap (λ l. get_or l at (plain_instr i)) (sym e) ∙ get_or-map plain_instr items at i (plain_instr i) lt ∙ ap plain_instr (sym is)

pub instr_follows : (items : List Instr) (b : PlainStmts ℕ) (at : ℕ) (i : Instr) → map plain_instr items ≡ code_of b → at < length items → i ≡ get_or items at i →
    Follows (left b) (plain_instr i) (left b at)
instr_follows items b at i e lt is =
    let n = many items b e in
    subst (λ j. Follows (left b) j (left b at)) (found items b at i e lt is) (follows b at (plain_instr i) (omega arith))

pub instr_fit : (fs : List ℕ) (n : ℕ) (items : List Instr) (b : PlainStmts ℕ) (at : ℕ) (i : Instr) → map plain_instr items ≡ code_of b → at < length items → i ≡ get_or items at i →
    stmts_fit fs n b ≡ true → instr_fits fs n (plain_instr i) ≡ true
instr_fit fs n items b at i e lt is h =
    let m = many items b e in
    subst (λ j. instr_fits fs n j ≡ true) (found items b at i e lt is) (fit_at fs n b at (plain_instr i) h (omega arith))

pub no_instr : (items : List Instr) (b : PlainStmts ℕ) (at : ℕ) → map plain_instr items ≡ code_of b → length items ≤ at → left b at ≡ no_stmts
no_instr items b at e le = let n = many items b e in left_past b at (omega arith)

-- a place of the short forms is one of the instructions
op_within : (b : PlainStmts ℕ) (ops : List Op) (at : ℕ) → AreShort (code_of b) ops → at < length ops → at < stmts_count b
op_within b ops at short lt = omega (arith, length_shorts (code_of b) ops short, length_code b, lt)

pub op_follows : (b : PlainStmts ℕ) (ops : List Op) (at : ℕ) (o : Op) → AreShort (code_of b) ops → at < length ops → o ≡ get_or ops at o → OpFollows (left b) o (left b at)
op_follows b ops at o short lt is =
    let i : PlainInstr = return_then (variable 0) in
    subst (λ p. OpFollows (left b) p (left b at)) (sym is)
    ((short_at (code_of b) ops at i o short lt).follows (left b) (left b at) (follows b at i (op_within b ops at short lt)))

pub op_fit : (fs : List ℕ) (n : ℕ) (b : PlainStmts ℕ) (ops : List Op) (at : ℕ) (o : Op) → AreShort (code_of b) ops → at < length ops → o ≡ get_or ops at o →
    stmts_fit fs n b ≡ true → op_fits fs n o ≡ true
op_fit fs n b ops at o short lt is h =
    let i : PlainInstr = return_then (variable 0) in
    subst (λ p. op_fits fs n p ≡ true) (sym is)
    ((short_at (code_of b) ops at i o short lt).fits fs n (fit_at fs n b at i h (op_within b ops at short lt)))
