-- The values that forms of a trace are: a number, a text, true and false, (), and the lists that pairs, threads and objects are
-- printed as.
use Rattle.std.specs.Prelude.{ℕ, List, [], ◌∷◌, true, false, Option, Some, None}
use Rattle.cml_value.specs.Value.{PlainValue, unit, int, truth, text, pair, thread, chan, swapchan, ivar, mvar, mailbox, mchan, port}
use Rattle.cml_text.specs.Forms.{PlainSexpr, plain_name, plain_int, plain_text, plain_list, no_forms, forms_and}
use Rattle.cml_text.specs.Numbers.{number_from}
use Rattle.cml_trace.specs.declared.keyword.Keyword.{Keyword}
use Rattle.cml_trace.specs.declared.keyword.Keyword.TheVariants as keyword
use Rattle.cml_trace.specs.Keywords.{keyword_of, keyword_from}
use Rattle.cml_trace.specs.Given.{both}

-- the truth value that a keyword is, if it is one
abbrev pub truth_of : Option Keyword → Option PlainValue
truth_of (Some keyword.True) = Some (truth true)
truth_of (Some keyword.False) = Some (truth false)
truth_of _ = None

-- the thread or object of this kind and number
abbrev pub object_by : Keyword → ℕ → Option PlainValue
object_by keyword.Thread n = Some (thread n)
object_by keyword.Chan n = Some (chan n)
object_by keyword.SwapChan n = Some (swapchan n)
object_by keyword.IVar n = Some (ivar n)
object_by keyword.MVar n = Some (mvar n)
object_by keyword.Mailbox n = Some (mailbox n)
object_by keyword.Mchan n = Some (mchan n)
object_by keyword.Port n = Some (port n)
object_by _ n = None

-- the same, where the kind or the number may be missing
abbrev pub object_from : Option Keyword → Option ℕ → Option PlainValue
object_from (Some kind) (Some n) = object_by kind n
object_from _ _ = None

-- the pair of two values after the keyword for pairs
abbrev pub pair_value : Option Keyword → Option PlainValue → Option PlainValue → Option PlainValue
pair_value (Some keyword.Pair) a b = both pair a b
pair_value _ a b = None

-- the value that the form is, if it is one
abbrev pub value_from : PlainSexpr → Option PlainValue
value_from (plain_name span name) = truth_of (keyword_of name)
value_from (plain_int span z) = Some (int z)
value_from (plain_text span bytes) = Some (text bytes)
value_from (plain_list span no_forms) = Some unit
value_from (plain_list span (forms_and kind (forms_and number no_forms))) =
    object_from (keyword_from kind) (number_from number)
value_from (plain_list span (forms_and kind (forms_and a (forms_and b no_forms)))) =
    pair_value (keyword_from kind) (value_from a) (value_from b)
value_from (plain_list span _) = None

-- a number and a value
abbrev pub number_and_value : List PlainSexpr → Option (ℕ × PlainValue)
number_and_value (n ∷ v ∷ []) = both (λ number value. (number, value)) (number_from n) (value_from v)
number_and_value _ = None
