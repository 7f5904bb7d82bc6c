-- What a request and its reply carry (ISO/IEC 19500-2, GIOP message formats): a request the `in` and `inout` parameters
-- in order, a reply the result and then the `inout` and `out` parameters in order.
use Rattle.std.specs.Prelude.{ℕ, List, length, codes, Option, Some, None, Result, Ok}
use Rattle.idl_tree.specs.declared.names.At.{At}
use Rattle.idl_tree.specs.declared.types.ParamType.{ParamType}
use Rattle.idl_tree.specs.declared.definitions.Direction.{Direction}
use Rattle.idl_tree.specs.declared.definitions.Direction.TheVariants.{In, Out, InOut}
use Rattle.idl_tree.specs.declared.definitions.Operation.{Operation}
use Rattle.idl_tree.specs.declared.definitions.Param.{Param}
use Rattle.idl_tree.specs.Starts.{leaf_at}
use Rattle.type_graph.specs.declared.node.Node.TheVariants.{Frame}
use Rattle.name_table.specs.Entry.{Entry}
use Rattle.name_table.specs.Search.{word}
use Rattle.scoped_names.specs.Reading.{◌>>◌}
use Rattle.lowered_types.specs.declared.fault.BuildFault.{BuildFault}
use Rattle.lowered_types.specs.Faults.{each}
use Rattle.lowered_types.specs.Members.{Members}
use Rattle.lowered_types.specs.Lowered.{Lowered, Numbered, added, already, counted}
use Rattle.lowered_types.specs.SimpleTypes.{param_type}
use Rattle.lowered_types.specs.Types.{member_added, no_members}
use Rattle.lowered_operations.specs.declared.frames.Carried.{Carried}
use Rattle.lowered_operations.specs.declared.frames.Carrying.{Carrying}
use Rattle.lowered_operations.specs.Oneway.{parts_of}

-- what is lowered, and what a request and its reply carry of it
abbrev pub carrying : Lowered → Carried → Carrying
carrying w c = record { types = w; carried = c }

abbrev pub nothing_carried : Carried
nothing_carried = record { request = no_members; reply = no_members }

-- one type more, of what has the name and stands there
abbrev pub with_carried : Carried → List ℕ → Direction → ℕ → At → Result Carried BuildFault
with_carried c name In number at = member_added c.request name number at >> λ ms. Ok (record c { request = ms })
with_carried c name Out number at = member_added c.reply name number at >> λ ms. Ok (record c { reply = ms })
with_carried c name InOut number at =
    member_added c.request name number at >> λ request.
    member_added c.reply name number at >> λ reply. Ok (record { request = request; reply = reply })

abbrev pub with_param : List Entry → ℕ → Carrying → Param → Result Carrying BuildFault
with_param es scope c p =
    param_type es c.types scope p.param_type >> λ t.
    with_carried c.carried (word p.identifier) p.direction t.number (leaf_at p.identifier) >> λ more.
    Ok (carrying t.lowered more)

-- what a result is called (the name is our own)
abbrev pub result_name : List ℕ
result_name = codes "_return"

-- the result of an operation that stands there; `void` is None
abbrev pub result_carried : List Entry → Lowered → ℕ → At → Option ParamType → Result Carrying BuildFault
result_carried es w scope at None = Ok (carrying w nothing_carried)
result_carried es w scope at (Some result) =
    param_type es w scope result >> λ t.
    with_carried nothing_carried result_name Out t.number at >> λ c. Ok (carrying t.lowered c)

-- the result and the parameters of an operation
abbrev pub all_carried : List Entry → Lowered → ℕ → Operation → Result Carrying BuildFault
all_carried es w scope o =
    result_carried es w scope (leaf_at o.identifier) o.result_type >> λ c.
    each (with_param es scope) c (parts_of o.params)

-- a frame of what is carried, of an operation that stands there
abbrev pub frame_added : Lowered → Members → At → Result Numbered BuildFault
frame_added w ms at =
    counted w (length ms.numbers) at >> λ v.
    added v (Frame ms.numbers) ms.names (record { at = at; held = ms.sites })

-- the frame of a request, whose number it is, and behind it that of its reply
abbrev pub frames_added : Lowered → Carried → At → Result Numbered BuildFault
frames_added w c at =
    frame_added w c.request at >> λ request.
    frame_added request.lowered c.reply at >> λ reply. Ok (already reply.lowered request.number)
