use Rattle.std.proofs.Common.{◌∙◌, ◌+◌, ◌++◌, ◌∷◌, [], drop, slice_get, ap, ap₂, sym}
use Rattle.std.proofs.lemmas.Result.{on_ok_weaker}
use Rattle.json.specs.Token.{begin_array, end_array, begin_object, end_object}
use Rattle.idl_value.specs.View.{trees_of, tree_of}
use Rattle.value_text.specs.Pieces.{joined, paired}
use Rattle.value_text.specs.inner.Writing.{member_at, part_at}
use Rattle.value_text.specs.Texts.{text_at}
use Rattle.value_text.proofs.Writing.{found, elements, elements_next, elements_end, row, row_next, row_end, pairs, pairs_next, pairs_end, closed, next}
use Rattle.value_text.proofs.printing.+printing.Goals as goal

pub write_list-returns : goal.write_list-returns
write_list-returns t c = on_ok_weaker c.end_array.result (λ written.
    let names = c.args.names.now in
    let graph = c.args.graph.now in
    let values = c.args.values.now in
    let i = c.loop-value.value-index in
    let elem = c.args.elem in
    let parts = joined (elements names graph elem (trees_of values)) in
    let rest = joined (elements names graph elem (trees_of (drop i values))) in
    record {
      same = c.end_array.ensures.room.0 ∙ c.loop-value.invariant.0;
      added = closed begin_array end_array c.args.out.now.tokens c.loop-value.out.tokens rest parts
          c.end_array.new.self.tokens c.loop-value.invariant.1
          (elements_end names graph elem values i c.loop-value-test.false) written;
    }) c.end_array.ensures.ok

pub write_row-returns : goal.write_row-returns
write_row-returns t c = on_ok_weaker c.end_array.result (λ written.
    let names = c.args.names.now in
    let graph = c.args.graph.now in
    let values = c.args.values.now in
    let members = c.args.members.now in
    let i = c.loop-place.place in
    record {
      same = c.end_array.ensures.room.0 ∙ c.loop-place.invariant.0;
      added = closed begin_array end_array c.args.out.now.tokens c.loop-place.out.tokens
          (row names graph members values i) (row names graph members values 0) c.end_array.new.self.tokens
          c.loop-place.invariant.1 (row_end names graph members values i c.loop-place-test.false) written;
    }) c.end_array.ensures.ok

pub write_object-returns : goal.write_object-returns
write_object-returns t c = on_ok_weaker c.end_object.result (λ written.
    let names = c.args.names.now in
    let graph = c.args.graph.now in
    let values = c.args.values.now in
    let labels = c.args.labels.now in
    let members = c.args.members.now in
    let i = c.loop-place.place in
    record {
      same = c.end_object.ensures.room.0 ∙ c.loop-place.invariant.0;
      added = closed begin_object end_object c.args.out.now.tokens c.loop-place.out.tokens
          (pairs names graph labels members values i) (pairs names graph labels members values 0)
          c.end_object.new.self.tokens
          c.loop-place.invariant.1 (pairs_end names graph labels members values i c.loop-place-test.false) written;
    }) c.end_object.ensures.ok

pub write_object-loop-place-preserved : goal.write_object-loop-place-preserved
write_object-loop-place-preserved t c =
    let adds = c.in_ok-write_member.ensures in
    let names = c.args.names.now in
    let graph = c.args.graph.now in
    let values = c.args.values.now in
    let labels = c.args.labels.now in
    let members = c.args.members.now in
    let i = c.loop-place.place in
    let value = c.index-values-place.result in
    let label = found (λ name. name.now) labels i c.get.result c.get.ensures.some c.get.ensures.none in
    let member = c.number_at-member.ensures in
    let tokens = c.loop-place.out.tokens in
    let step = pairs_next names graph labels members values i value c.loop-place-test.true c.index-values-place.is in (
      adds.same ∙ c.loop-place.invariant.0,
      next tokens c.write_member.new.out.tokens
          (paired (member_at names graph (slice_get labels i) (slice_get members i) (tree_of value)))
          (pairs names graph labels members values (i + 1))
          ((c.args.out.now.tokens ++ begin_object ∷ []) ++ pairs names graph labels members values 0)
          (ap (λ l. tokens ++ l) (sym step) ∙ c.loop-place.invariant.1)
          (adds.added ∙ ap₂ (λ l m. tokens ++ paired (member_at names graph l m (tree_of value))) label member),
    )

pub write_row-loop-place-preserved : goal.write_row-loop-place-preserved
write_row-loop-place-preserved t c =
    let adds = c.in_ok-write_part.ensures in
    let names = c.args.names.now in
    let graph = c.args.graph.now in
    let values = c.args.values.now in
    let members = c.args.members.now in
    let i = c.loop-place.place in
    let value = c.index-values-place.result in
    let tokens = c.loop-place.out.tokens in
    let step = row_next names graph members values i value c.loop-place-test.true c.index-values-place.is in (
      adds.same ∙ c.loop-place.invariant.0,
      next tokens c.write_part.new.out.tokens (joined (part_at names graph (slice_get members i) (tree_of value)))
          (row names graph members values (i + 1))
          ((c.args.out.now.tokens ++ begin_array ∷ []) ++ row names graph members values 0)
          (ap (λ l. tokens ++ l) (sym step) ∙ c.loop-place.invariant.1)
          (adds.added ∙ ap (λ m. tokens ++ joined (part_at names graph m (tree_of value))) c.number_at-member.ensures),
    )

pub write_list-loop-value-preserved : goal.write_list-loop-value-preserved
write_list-loop-value-preserved t c =
    let adds = c.in_ok-write_value.ensures in
    let names = c.args.names.now in
    let graph = c.args.graph.now in
    let values = c.args.values.now in
    let elem = c.args.elem in
    let i = c.loop-value.value-index in
    let value = c.value-item.result in
    let tokens = c.loop-value.out.tokens in
    let step = elements_next names graph elem values i value c.loop-value-test.true c.value-item.is in (
      adds.same ∙ c.loop-value.invariant.0,
      next tokens c.write_value.new.out.tokens (text_at names graph elem (tree_of value))
          (joined (elements names graph elem (trees_of (drop (i + 1) values))))
          ((c.args.out.now.tokens ++ begin_array ∷ []) ++ joined (elements names graph elem (trees_of values)))
          (ap (λ l. tokens ++ l) (sym step) ∙ c.loop-value.invariant.1) adds.added,
    )
