use Rattle.std.proofs.Common.{◌==◌, ℕ, List, [], length, sym, ap, ◌∙◌}
use Rattle.std.proofs.lemmas.Result.{err_from_is_err_and}
use Rattle.std.proofs.lemmas.List.{append-nil}
use Rattle.std.proofs.lemmas.Bool.{false≢true}
use Rattle.type_graph.specs.Value.{node_at, tape_of}
use Rattle.type_graph.proofs.OneTape.{graph_fits_words, one_front}
use Rattle.idl_value.specs.View.{tree_of}
use Rattle.idl_value.proofs.UnpackLaws.{refuses_weaker, no_whole_tape}
use Rattle.idl_value.proofs.unpack.Goals as goal

pub returns-in_err-value-clause-refused : goal.returns-in_err-value-clause-refused
returns-in_err-value-clause-refused c =
    let p = err_from_is_err_and c.from_residual.result c.from_residual.ensures.1 in
    rw (p.1, p.2) (refuses_weaker _
    (no_whole_tape c.args.graph.now (node_at c.args.graph.now c.args.node) 64 c.args.tape.now)
    (c.in_err-value.ensures.refused c.requires))

pub returns-then-not-is_empty-clause-refused : goal.returns-then-not-is_empty-clause-refused
returns-then-not-is_empty-clause-refused c = λ value fits tape.
    let graph = c.args.graph.now in
    let node = node_at graph c.args.node in
    let words = graph_fits_words graph c.in_ok-value.ensures.rules in
    let found = c.in_ok-value.ensures.found c.requires in
    let same = one_front graph words node (tree_of c.in_ok-value.value) value 64 64 c.in_ok-value.rest.now []
    (words c.args.node) found.0 fits
    (sym found.1 ∙ sym tape ∙ sym (append-nil (tape_of graph node value))) in
    false≢true (sym c.if-not-is_empty.true ∙ c.is_empty.ensures ∙ ap (λ (l : List ℕ). length l == 0) same.1)
