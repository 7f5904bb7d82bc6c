use Rattle.std.proofs.Common.{ℕ, List, Some, None, refl}
use Rattle.type_graph.specs.Value.{Tree}
use Rattle.giop_types.specs.TapeParts.{pair_of, pairs_of}
use Rattle.giop.specs.inner.Tapes.{BeginsBehind}
use Rattle.giop.proofs.TargetSplits.{reads_or, no_list, selected_found, pair_there, pair_past}
use Rattle.giop.proofs.reading.target.split_reference.Goals as goal

pub returns-in-Err-clause-refused : goal.returns-in-Err-clause-refused
returns-in-Err-clause-refused c =
    reads_or c.in-Err.fault _ ((target : Tree) (rest : List ℕ) → BeginsBehind 2 target c.args.tape.now rest → ⊥)
    (λ none target rest b. no_list target c.args.tape.now rest c.in-Some.selected c.in-Some.behind.now
    c.in-Some-split_octets.field-0-0.now c.in-Some-split_octets.behind.now b c.in-Some.ensures.found.0
    c.in-Some.ensures.found.1 c.in-Some-split_octets.ensures.found.0 c.in-Some-split_octets.ensures.found.1 none)
    c.in-Err.ensures.refused

pub returns-in-Some-get-clause-found : goal.returns-in-Some-get-clause-found
returns-in-Some-get-clause-found c = λ target rest b.
    selected_found target c.args.tape.now rest c.in-Some.selected c.in-Some.behind.now
    c.in-Some-split_octets.field-0-0.now c.in-Some-split_octets.behind.now (pairs_of c.in-Ok.list.0.items)
    c.in-Ok.list.1.now (Some (pair_of c.in-Some-get.profile.now)) b c.in-Some.ensures.found.0
    c.in-Some.ensures.found.1 c.in-Some-split_octets.ensures.found.0 c.in-Some-split_octets.ensures.found.1
    c.in-Ok.ensures.found.0 c.in-Ok.ensures.found.1
    (pair_there c.in-Ok.list.0.items c.as_slice.result.now c.in-Some.selected c.in-Some-get.profile.now
    c.as_slice.ensures.value c.in-Some-get.ensures.lookup.3.0 c.in-Some-get.ensures.lookup.1)

pub returns-clause-found : goal.returns-clause-found
returns-clause-found c = λ target rest b.
    let told = selected_found target c.args.tape.now rest c.in-Some.selected c.in-Some.behind.now
    c.in-Some-split_octets.field-0-0.now c.in-Some-split_octets.behind.now (pairs_of c.in-Ok.list.0.items)
    c.in-Ok.list.1.now None b c.in-Some.ensures.found.0 c.in-Some.ensures.found.1
    c.in-Some-split_octets.ensures.found.0 c.in-Some-split_octets.ensures.found.1
    c.in-Ok.ensures.found.0 c.in-Ok.ensures.found.1
    (pair_past c.in-Ok.list.0.items c.as_slice.result.now c.in-Some.selected c.as_slice.ensures.value
    c.in-None.ensures.lookup.3) in
    (told.0 None refl, told.1)
