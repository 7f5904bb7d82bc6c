use Rattle.std.proofs.Common.{option_map, inl, inr, sym, ◌∙◌}
use Rattle.giop_messages.specs.Messages.{Content, Says, content_of}
use Rattle.giop_types.proofs.Found.{none_then, some_then}
use Rattle.giop.proofs.Frames.{part_found, silent, whole_found}
use Rattle.giop.proofs.giop_calls.Giop.read_frame.Goals as goal
use Rattle.giop.proofs.giop_calls.Giop.read_frame.Goals.{then-is_fragment-via-then-is_fragment, then-is_fragment-via-else-is_fragment+then-frame}

pub returns-then-is_fragment-clause-found : goal.returns-then-is_fragment-clause-found
returns-then-is_fragment-clause-found c =
    part_found (option_map (λ r. r.now) c.args.run) c.args.octets.now c.split_at.result.0.now c.args.frame.now
    c.message_id.result c.is_fragment-is_fragment.result c.requires c.is_fragment-is_fragment.ensures
    (elim c.then-is_fragment.branch [
      | then-is_fragment-via-then-is_fragment w ↦ inl w.if-is_fragment.true
      | then-is_fragment-via-else-is_fragment+then-frame w ↦ inr w.if-frame.true
    ]) c.split_at.ensures.front c.message_id.ensures

pub returns-in-Some-clause-found : goal.returns-in-Some-clause-found
returns-in-Some-clause-found c =
    whole_found (option_map (λ r. r.now) c.args.run) c.args.octets.now c.split_at.result.0.now c.args.frame.now
    c.in-Some.message c.requires (sym c.is_fragment-is_fragment.ensures ∙ c.if-is_fragment.false) c.if-frame.false
    c.split_at.ensures.front
    (some_then c.in_ok-message.field-0 c.in-Some.message (λ m. Says c.split_at.result.0.now (content_of m)) c.in-Some.is
    c.in_ok-message.ensures.found)

pub returns-in-None-clause-refused : goal.returns-in-None-clause-refused
returns-in-None-clause-refused c =
    inr (silent (option_map (λ r. r.now) c.args.run) c.args.octets.now c.split_at.result.0.now c.args.frame.now
    c.requires (sym c.is_fragment-is_fragment.ensures ∙ c.if-is_fragment.false) c.if-frame.false
    c.split_at.ensures.front
    (none_then c.in_ok-message.field-0 ((content : Content) → Says c.split_at.result.0.now content → ⊥) c.in-None.is
    c.in_ok-message.ensures.refused))
