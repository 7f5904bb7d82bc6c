use Rattle.std.proofs.Common.{◌≡◌, ◌≤◌, ◌*◌, length, replicate, sym, ap, ap₂, ◌∙◌, subst}
use Rattle.std.specs.List.{flat_map}
use Rattle.type_graph.specs.Leaves.{IsWordOf, AreWords}
use Rattle.type_graph.specs.inner.Shapes.{IsRun}
use Rattle.type_graph.proofs.ShapeLaws.{all_copies, length-copies, no_copies, mixed_copies, some_copies}
use Rattle.type_graph.proofs.shape.repeated_run.Goals as goal

pub returns-in-Empty : goal.returns-in-Empty
returns-in-Empty c = λ leaves number a. no_copies leaves c.args.count number
    (subst (IsRun (leaves number)) c.in-Empty.is a)

pub returns-in-Words : goal.returns-in-Words
returns-in-Words c = λ leaves number a.
    let words : AreWords c.in-Words.width c.in-Words.n (leaves number) =
    subst (IsRun (leaves number)) c.in-Words.is a in
    let counts : c.from.result * c.from-in-Words.result ≡ c.args.count * c.in-Words.n =
    ap₂ ◌*◌ c.from.ensures c.from-in-Words.ensures in
    let long : length (flat_map leaves (replicate c.args.count number)) ≡ c.from.result * c.from-in-Words.result =
    length-copies leaves c.args.count number ∙ ap (λ k. c.args.count * k) words.long ∙ sym counts in
    c.counted.ensures (flat_map leaves (replicate c.args.count number))
    (all_copies (IsWordOf c.in-Words.width) leaves c.args.count number words.words) long
    (subst (λ k. 1 ≤ k) (sym counts) (some_copies c.args.count c.in-Words.n c.requires words.some))

pub returns-in-Mixed : goal.returns-in-Mixed
returns-in-Mixed c = λ leaves number a. mixed_copies leaves c.args.count number c.requires
    (subst (IsRun (leaves number)) c.in-Mixed.is a)
