-- The groups that forms of a trace are: never, (choose G*), (wrap G F V*), (scope N G), and the base events (always V), (send C V),
-- (recv C), (swap X V), (iget I), (mtake M), (mget M), (mswap M V), (mailrecv B), (portrecv P), (join T), (at K), (after K) and
-- (nack N). G is a group, V a value, K a tick or how many ticks, and every other letter a number: F of a function, N of a nack, T of a
-- thread, and else of an object of the kind that the base event takes.
use Rattle.std.specs.Prelude.{ℕ, List, [], ◌∷◌, drop, map, Option, Some, None, option_map, option_and_then}
use Rattle.cml_value.specs.Value.{PlainValue, values, PlainFunction, function, PlainBase, always, send, recv, swap, iget, mtake, mget, mswap, mail_recv, port_recv, join, at_tick, after_ticks, nack}
use Rattle.cml_value.specs.Group.{PlainGroup, never, leaf, choose, wrap, scope, groups}
use Rattle.cml_text.specs.Forms.{PlainSexpr, plain_name, plain_list, PlainForms, no_forms, forms_and, forms_list}
use Rattle.cml_trace.specs.declared.keyword.Keyword.{Keyword}
use Rattle.cml_trace.specs.declared.keyword.Keyword.TheVariants as keyword
use Rattle.cml_trace.specs.Keywords.{keyword_of, head_of}
use Rattle.cml_trace.specs.Given.{both, all_of}
use Rattle.cml_text.specs.Numbers.{number_from, tick_from}
use Rattle.cml_trace.specs.ValueForms.{value_from, number_and_value}

-- the base events that name one channel, variable, queue, thread or nack, by their keywords
abbrev pub naming : Keyword → Option (ℕ → PlainBase)
naming keyword.Recv = Some recv
naming keyword.IGet = Some iget
naming keyword.MTake = Some mtake
naming keyword.MGet = Some mget
naming keyword.MailRecv = Some mail_recv
naming keyword.PortRecv = Some port_recv
naming keyword.Join = Some join
naming keyword.Nack = Some nack
naming _ = None

-- those that name a channel, a swap channel or a variable and hand over a value
abbrev pub giving : Keyword → Option (ℕ → PlainValue → PlainBase)
giving keyword.Send = Some send
giving keyword.Swap = Some swap
giving keyword.MSwap = Some mswap
giving _ = None

-- those that wait for a tick
abbrev pub timing : Keyword → Option (ℕ → PlainBase)
timing keyword.At = Some at_tick
timing keyword.After = Some after_ticks
timing _ = None

abbrev pub naming_by : Keyword → List PlainSexpr → Option PlainBase
naming_by keyword (n ∷ []) = both (λ base number. base number) (naming keyword) (number_from n)
naming_by keyword _ = None

abbrev pub giving_by : Keyword → List PlainSexpr → Option PlainBase
giving_by keyword forms = option_and_then (λ given. option_map (λ base. base given.0 given.1) (giving keyword)) (number_and_value forms)

abbrev pub timing_by : Keyword → List PlainSexpr → Option PlainBase
timing_by keyword (k ∷ []) = both (λ base tick. base tick) (timing keyword) (tick_from k)
timing_by keyword _ = None

-- the one that is always enabled, with its value
abbrev pub always_by : List PlainSexpr → Option PlainBase
always_by (v ∷ []) = option_map always (value_from v)
always_by _ = None

-- the base event that these forms after its keyword are
abbrev pub base_by : Keyword → List PlainSexpr → Option PlainBase
base_by keyword.Always forms = always_by forms
base_by keyword.Send forms = giving_by keyword.Send forms
base_by keyword.Swap forms = giving_by keyword.Swap forms
base_by keyword.MSwap forms = giving_by keyword.MSwap forms
base_by keyword.At forms = timing_by keyword.At forms
base_by keyword.After forms = timing_by keyword.After forms
base_by keyword forms = naming_by keyword forms

-- the same, as a group
abbrev pub leaf_by : Keyword → List PlainSexpr → Option PlainGroup
leaf_by keyword forms = option_map leaf (base_by keyword forms)

-- the function of this number with these captured values
abbrev pub function_from : PlainSexpr → List PlainSexpr → Option PlainFunction
function_from f vs = both (λ n captured. function n (values captured)) (number_from f) (all_of (map value_from vs))

-- a group, wrapped by a function: the form of the group, then that of the function, then those of its captured values
abbrev pub wrap_by : List PlainSexpr → List (Option PlainGroup) → Option PlainGroup
wrap_by (g ∷ f ∷ vs) (inner ∷ rest) = both wrap inner (function_from f vs)
wrap_by _ found = None

-- a group in the scope of a nack: the form of the nack's number, then that of the group
abbrev pub scope_by : List PlainSexpr → List (Option PlainGroup) → Option PlainGroup
scope_by (k ∷ g ∷ []) (number ∷ inner ∷ rest) = both scope (number_from k) inner
scope_by _ found = None

-- the group that these forms after its keyword are; `found` has of each of them the group that it is, if it is one
abbrev pub group_by : Keyword → List PlainSexpr → List (Option PlainGroup) → Option PlainGroup
group_by keyword.Choose forms found = option_map (λ gs. choose (groups gs)) (all_of found)
group_by keyword.Wrap forms found = wrap_by forms found
group_by keyword.Scope forms found = scope_by forms found
group_by keyword forms found = leaf_by keyword forms

-- a keyword alone is a group only where it is the one for never
abbrev pub never_of : Option Keyword → Option PlainGroup
never_of (Some keyword.Never) = Some never
never_of _ = None

-- the group of a list, by the keyword at its head and the forms after it; `found` has of each form, the head too, the group that it is,
-- if it is one
abbrev pub list_by : Option (Keyword × List PlainSexpr) → List (Option PlainGroup) → Option PlainGroup
list_by None found = None
list_by (Some head) found = group_by head.0 head.1 (drop 1 found)

abbrev mutual
  -- the group that the form is, if it is one
  pub group_from : PlainSexpr → Option PlainGroup
  group_from (plain_name span name) = never_of (keyword_of name)
  group_from (plain_list span forms) = list_by (head_of (forms_list forms)) (groups_from forms)
  group_from _ = None

  -- of each form the group that it is, if it is one
  pub groups_from : PlainForms → List (Option PlainGroup)
  groups_from no_forms = []
  groups_from (forms_and form forms) = group_from form ∷ groups_from forms
