-- The discriminators of unions and their labels (ISO/IEC 19500-1, unions).
use Rattle.std.specs.Prelude.{ℕ, ◌+◌, ◌-◌, ◌/◌, Bool, true, false, ◌&&◌, if◌then◌else◌, List, [], ◌∷◌, ◌++◌, length, Option, Some, None, Result, Ok, Err, slice_get, ℤ, pos, neg_ℤ, int_lt, int_le}
use Rattle.std.specs.Option.{option_or}
use Rattle.std.specs.Ordering.{int_eq}
use Rattle.idl_tree.specs.declared.names.At.{At}
use Rattle.idl_tree.specs.declared.expression.Expr.{Expr}
use Rattle.idl_tree.specs.declared.types.Label.{Label}
use Rattle.idl_tree.specs.declared.types.Label.TheVariants.{Case as CaseLabel, Default}
use Rattle.idl_tree.specs.declared.types.SwitchType.{SwitchType}
use Rattle.idl_tree.specs.declared.types.SwitchType.TheVariants as SwitchTypes
use Rattle.idl_tree.specs.Starts.{expr_start, leaf_at, name_start}
use Rattle.type_graph.specs.declared.fault.GraphLimit.TheVariants.{Members as MembersLimit}
use Rattle.type_graph.specs.declared.node.Node.{Node}
use Rattle.type_graph.specs.declared.node.Node.TheVariants.{Integer as IntegerNode, Char, Boolean as BooleanNode, Enum}
use Rattle.type_graph.specs.declared.values.Values.{Values}
use Rattle.type_graph.specs.Words.{words_of}
use Rattle.name_table.specs.declared.const_values.constant.Constant.{Constant}
use Rattle.name_table.specs.declared.const_values.constant.Constant.TheVariants.{Integer, Boolean, Character, Text, Enumerator}
use Rattle.name_table.specs.declared.const_values.kind.ConstKind.{ConstKind}
use Rattle.name_table.specs.declared.const_values.kind.ConstKind.TheVariants as Kinds
use Rattle.name_table.specs.Kinds.{fits}
use Rattle.name_table.specs.Entry.{Entry, meant_in}
use Rattle.scoped_names.specs.Reading.{◌>>◌}
use Rattle.scoped_names.specs.Tests.{value_read}
use Rattle.lowered_types.specs.declared.arms.Arm.{Arm}
use Rattle.lowered_types.specs.declared.arms.DefaultArm.{DefaultArm}
use Rattle.lowered_types.specs.declared.fault.BuildFault.{BuildFault}
use Rattle.lowered_types.specs.declared.fault.BuildFault.TheVariants.{Types}
use Rattle.lowered_types.specs.declared.fault.TypeFault.{TypeFault}
use Rattle.lowered_types.specs.declared.fault.TypeFault.TheVariants.{BadSwitch, LabelRange, LabelTwice}
use Rattle.lowered_types.specs.declared.fault.TypeKind.{TypeKind}
use Rattle.lowered_types.specs.declared.fault.LabelWorth.{LabelWorth}
use Rattle.lowered_types.specs.declared.fault.LabelWorth.TheVariants as Worths
use Rattle.lowered_types.specs.declared.labels.LabelValue.{LabelValue}
use Rattle.lowered_types.specs.declared.labels.Switch.{Switch}
use Rattle.lowered_types.specs.Faults.{at_most, max_members, of_names}
use Rattle.lowered_types.specs.TypeKinds.{const_kind, kind_of}
use Rattle.lowered_types.specs.Lowered.{Lowered, Numbered, already}
use Rattle.lowered_types.specs.SimpleTypes.{entry_found, entry_of, enum_type, integer_number, type_found}

-- ---- discriminators

-- the type of a discriminator
abbrev pub switch_type : List Entry → Lowered → ℕ → SwitchType → Result Numbered BuildFault
switch_type es w scope (SwitchTypes.Integer i) = Ok (already w (integer_number i))
switch_type es w scope SwitchTypes.Char = Ok (already w 1)
switch_type es w scope SwitchTypes.Boolean = Ok (already w 2)
switch_type es w scope (SwitchTypes.Enum e) = enum_type es w scope e
switch_type es w scope (SwitchTypes.Name name) = type_found es w scope name >> λ n. Ok (already w n)

-- of which type its labels are constants
abbrev pub switch_kind : List Entry → ℕ → SwitchType → Result (Option ConstKind) BuildFault
switch_kind es scope (SwitchTypes.Integer i) = Ok (Some (Kinds.Integer i))
switch_kind es scope SwitchTypes.Char = Ok (Some Kinds.Char)
switch_kind es scope SwitchTypes.Boolean = Ok (Some Kinds.Boolean)
switch_kind es scope (SwitchTypes.Enum e) = entry_of es scope e.identifier >> λ entry. Ok (Some (Kinds.Enum entry))
switch_kind es scope (SwitchTypes.Name name) =
    entry_found es scope name >> λ entry. Ok (meant_in (slice_get es entry))

-- so many values from 0 on
abbrev pub values_below : ℕ → Values
values_below n = record { least = pos 0; end = pos n; count = n }

-- as many below 0 as from 0 on
abbrev pub signed_values : ℕ → Values
signed_values n = record { least = neg_ℤ (pos (n / 2)); end = pos (n / 2); count = n }

-- the values of a discriminator; an octet is none
abbrev pub values_of : Option Node → Option Values
values_of (Some (IntegerNode width true)) = Some (signed_values (words_of width))
values_of (Some (IntegerNode width false)) = Some (values_below (words_of width))
values_of (Some Char) = Some (values_below 256)
values_of (Some BooleanNode) = Some (values_below 2)
values_of (Some (Enum n)) = Some (values_below n)
values_of _ = None

abbrev pub switch_of : At → Option TypeKind → ℕ → Option ConstKind → Option Values → Result Switch BuildFault
switch_of at found n (Some kind) (Some values) = Ok (record { number = n; kind = kind; values = values })
switch_of at found n (Some kind) None = Err (Types (BadSwitch at found))
switch_of at found n None values = Err (Types (BadSwitch at found))

-- a discriminator, and what is lowered behind it
pub record Switched : Type 0 where
  pub switch : Switch
  pub lowered : Lowered

abbrev pub switched : Lowered → Switch → Switched
switched w s = record { switch = s; lowered = w }

-- where a discriminator without labels is told: at its name, or else where its union stands
abbrev pub switch_at : SwitchType → At → At
switch_at (SwitchTypes.Integer i) at = at
switch_at SwitchTypes.Char at = at
switch_at SwitchTypes.Boolean at = at
switch_at (SwitchTypes.Enum e) at = leaf_at e.identifier
switch_at (SwitchTypes.Name name) at = leaf_at (name_start name)

abbrev pub switch_read : List Entry → Lowered → ℕ → At → SwitchType → Result Switched BuildFault
switch_read es w scope at s =
    switch_type es w scope s >> λ t.
    switch_kind es scope s >> λ kind.
    switch_of (switch_at s at) (kind_of t.number (slice_get t.lowered.nodes t.number)) t.number kind
    (values_of (slice_get t.lowered.nodes t.number)) >> λ switch.
    Ok (switched t.lowered switch)

-- ---- the values of labels

-- the value of a discriminator for which a constant stands: an enumerator is the number of those before it, and
-- enumerators are the entries behind their enumeration
abbrev pub label_number : Constant → Option ℤ
label_number (Integer n) = Some n
label_number (Boolean false) = Some (pos 0)
label_number (Boolean true) = Some (pos 1)
label_number (Character c) = Some (pos c)
label_number (Text octets) = None
label_number (Enumerator e owner) = Some (pos (e - owner - 1))

-- a constant, without the octets of a text
abbrev pub told_of : Constant → LabelWorth
told_of (Integer n) = Worths.Integer n
told_of (Boolean b) = Worths.Boolean b
told_of (Character c) = Worths.Character c
told_of (Text octets) = Worths.Text
told_of (Enumerator e owner) = Worths.Enumerator e

-- what is told of a label that is no value of the discriminator
abbrev pub out_of_range : Switch → At → Constant → TypeFault
out_of_range s at c = LabelRange at (told_of c) (const_kind s.kind) s.values

abbrev pub is_value : Values → ℤ → Bool
is_value values n = int_le values.least n && int_lt n values.end

abbrev pub label_within : Switch → At → Constant → Option ℤ → Result ℤ BuildFault
label_within s at c None = Err (Types (out_of_range s at c))
label_within s at c (Some n) =
    (if fits s.kind c && is_value s.values n then Ok n else Err (Types (out_of_range s at c)))

-- the value of a label: a constant of the discriminator's type
abbrev pub label_value : List Entry → ℕ → Switch → Expr → Result ℤ BuildFault
label_value es scope s e =
    of_names (value_read es scope e) >> λ c. label_within s (leaf_at (expr_start e)) c (label_number c)

-- ---- arms

-- the arms of a union in rising order of their labels, and the one of every other value; what the members are called,
-- in the order of the text
pub record Arms : Type 0 where
  pub arms : List Arm
  pub default : Option DefaultArm
  pub names : List (List ℕ)

abbrev pub no_arms : Arms
no_arms = record { arms = []; default = None; names = [] }

-- the value of a label, and where it stands
abbrev pub labelled : ℤ → At → LabelValue
labelled n at = record { value = n; at = at }

-- the labels of a case: their values, and where `default` stands
pub record CaseLabels : Type 0 where
  pub values : List LabelValue
  pub default : Option At

abbrev pub no_labels : CaseLabels
no_labels = record { values = []; default = None }

-- where a label stands that has the value: of an arm, of the case
abbrev pub arm_label_at : List Arm → ℤ → Option At
arm_label_at [] n = None
arm_label_at (arm ∷ arms) n = (if int_eq arm.label n then Some arm.label_at else arm_label_at arms n)

abbrev pub value_at : List LabelValue → ℤ → Option At
value_at [] n = None
value_at (l ∷ ls) n = (if int_eq l.value n then Some l.at else value_at ls n)

-- where an arm or a label before stands that has the value
abbrev pub taken_at : Arms → CaseLabels → ℤ → Option At
taken_at a ls n = option_or (arm_label_at a.arms n) (value_at ls.values n)

-- where the default of an arm stands, or that of the case
abbrev pub keyword_at : Option DefaultArm → Option At
keyword_at None = None
keyword_at (Some d) = Some d.keyword

abbrev pub default_before : Arms → CaseLabels → Option At
default_before a ls = option_or (keyword_at a.default) ls.default

-- no other has the value, or is a default
abbrev pub once_test : At → Option At → Result (Unit {0}) BuildFault
once_test at None = Ok tt
once_test at (Some other) = Err (Types (LabelTwice at other))

-- a value that no arm and no label before has
abbrev pub value_added : Arms → CaseLabels → At → ℤ → Result CaseLabels BuildFault
value_added a ls at n =
    once_test at (taken_at a ls n) >> λ u.
    at_most max_members MembersLimit at (length a.arms + length ls.values + 1) >> λ count.
    Ok (record ls { values = ls.values ++ labelled n at ∷ [] })

-- `default`, which an arm or the case has once
abbrev pub default_added : Arms → CaseLabels → At → Result CaseLabels BuildFault
default_added a ls at = once_test at (default_before a ls) >> λ u. Ok (record ls { default = Some at })

-- one label more, behind those of the case and the arms of the cases before
abbrev pub label_added : List Entry → ℕ → Switch → Arms → CaseLabels → Label → Result CaseLabels BuildFault
label_added es scope s a ls (CaseLabel e) =
    label_value es scope s e.expr >> λ n. value_added a ls (leaf_at (expr_start e.expr)) n
label_added es scope s a ls (Default word) = default_added a ls (leaf_at word)

abbrev pub with_arm : List Arm → Arm → List Arm
with_arm [] new = new ∷ []
with_arm (arm ∷ arms) new = (if int_lt new.label arm.label then new ∷ arm ∷ arms else arm ∷ with_arm arms new)

-- the arms of labels, whose member stands there and has a type of the number
abbrev pub with_arms : List Arm → ℕ → At → List LabelValue → List Arm
with_arms arms number at [] = arms
with_arms arms number at (l ∷ ls) =
    with_arms (with_arm arms (record { label = l.value; label_at = l.at; number = number; at = at })) number at ls

abbrev pub with_default : Option DefaultArm → ℕ → At → Option At → Option DefaultArm
with_default default number at None = default
with_default default number at (Some keyword) =
    Some (record { number = number; at = at; keyword = keyword })

abbrev pub with_case : Arms → List ℕ → ℕ → At → CaseLabels → Arms
with_case a name number at ls = record {
  arms = with_arms a.arms number at ls.values;
  default = with_default a.default number at ls.default;
  names = a.names ++ name ∷ [];
}
