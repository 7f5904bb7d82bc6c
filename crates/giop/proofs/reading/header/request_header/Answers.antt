use Rattle.std.proofs.Common.{List, ℕ}
use Rattle.type_graph.specs.Value.{Tree}
use Rattle.giop.specs.inner.Tapes.{Begins}
use Rattle.giop.proofs.TargetSplits.{reads_or}
use Rattle.giop.proofs.HeaderSplits.{request_found, no_flags, no_reserved, no_target, no_operation}
use Rattle.giop.proofs.reading.header.request_header.Goals as goal

pub returns-in_default-split_u8-clause-refused : goal.returns-in_default-split_u8-clause-refused
returns-in_default-split_u8-clause-refused c = λ value rest b.
    no_flags value c.args.tape.now rest c.in-Some.id c.in-Some.behind.now b c.in-Some.ensures.found.0
    c.in-Some.ensures.found.1
    c.in_default-split_u8.ensures.refused

pub returns-in_default-skip_reserved-clause-refused : goal.returns-in_default-skip_reserved-clause-refused
returns-in_default-skip_reserved-clause-refused c = λ value rest b.
    no_reserved value c.args.tape.now rest c.in-Some.id c.in-Some.behind.now c.in-Some-split_u8.flags
    c.in-Some-split_u8.behind.now b c.in-Some.ensures.found.0 c.in-Some.ensures.found.1
    c.in-Some-split_u8.ensures.found.0 c.in-Some-split_u8.ensures.found.1 c.in_default-skip_reserved.ensures.refused

pub returns-in-Err-clause-refused : goal.returns-in-Err-clause-refused
returns-in-Err-clause-refused c =
    reads_or c.in-Err.fault _ ((value : Tree) (rest : List ℕ) → Begins 17 value c.args.tape.now rest → ⊥)
    (λ none value rest b. no_target value c.args.tape.now rest c.in-Some.id c.in-Some.behind.now
    c.in-Some-split_u8.flags c.in-Some-split_u8.behind.now c.in-Some-skip_reserved.behind.now b
    c.in-Some.ensures.found.0 c.in-Some.ensures.found.1
    c.in-Some-split_u8.ensures.found.0 c.in-Some-split_u8.ensures.found.1 c.in-Some-skip_reserved.ensures.found none)
    c.in-Err.ensures.refused

pub returns-in-Some-split_octets-clause-found : goal.returns-in-Some-split_octets-clause-found
returns-in-Some-split_octets-clause-found c = λ value rest b.
    request_found value c.args.tape.now rest c.in-Some.id c.in-Some.behind.now c.in-Some-split_u8.flags
    c.in-Some-split_u8.behind.now c.in-Some-skip_reserved.behind.now c.in-Ok.split.0 c.in-Ok.split.1.now
    c.in-Some-split_octets.operation c.in-Some-split_octets.field-0-1.now b
    c.in-Some.ensures.found.0 c.in-Some.ensures.found.1
    c.in-Some-split_u8.ensures.found.0 c.in-Some-split_u8.ensures.found.1 c.in-Some-skip_reserved.ensures.found
    c.in-Ok.ensures.found c.in-Some-split_octets.ensures.found.0 c.in-Some-split_octets.ensures.found.1

pub returns-in-None-clause-refused : goal.returns-in-None-clause-refused
returns-in-None-clause-refused c = λ value rest b.
    no_operation value c.args.tape.now rest c.in-Some.id c.in-Some.behind.now c.in-Some-split_u8.flags
    c.in-Some-split_u8.behind.now c.in-Some-skip_reserved.behind.now c.in-Ok.split.0 c.in-Ok.split.1.now b
    c.in-Some.ensures.found.0 c.in-Some.ensures.found.1
    c.in-Some-split_u8.ensures.found.0 c.in-Some-split_u8.ensures.found.1 c.in-Some-skip_reserved.ensures.found
    c.in-Ok.ensures.found c.in-None.ensures.refused
