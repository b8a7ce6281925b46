-- The view of a group, made from its one field. The parts are given by their own views.
use Rattle.cml_value.specs.Group.{PlainGroup, never, leaf, choose, wrap, scope, groups}
use Rattle.cml_value.specs.declared.group.GroupKind.{GroupKind}
use Rattle.cml_value.specs.declared.group.GroupKind.TheVariants as group_kind

abbrev pub plain_group : GroupKind → PlainGroup
plain_group group_kind.Never = never
plain_group (group_kind.Leaf b) = leaf b
plain_group (group_kind.Choose gs) = choose (groups gs.value.items)
plain_group (group_kind.Wrap g f) = wrap g.value f
plain_group (group_kind.Scope k g) = scope k.0 g.value
