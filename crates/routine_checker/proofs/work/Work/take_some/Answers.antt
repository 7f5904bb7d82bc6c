use Rattle.std.proofs.Common.{◌≡◌, ℕ, ◌-◌, ◌*◌, ◌≤◌, ◌++◌, [], Option, IfSome, IfNone, replicate, sym, ap, subst, ◌∙◌, arith}
use Rattle.routine_checker.specs.Taking.{taken}
use Rattle.routine_checker.specs.inner.Work.{wants, work_of}
use Rattle.routine_checker.proofs.TakeLaws.{within_nothing, took_first, no_first}
use Rattle.routine_checker.proofs.CountLaws.{took_many, copies_fit}
use Rattle.routine_checker.proofs.work.Work.take_some.Goals as goal

pub returns-in-None-clause-refused : goal.returns-in-None-clause-refused
returns-in-None-clause-refused c = λ is.
    let nothing = subst (λ (first : Option (ℕ × ℕ)). IfNone first (work_of c.args.self.now.items.items ≡ []))
    c.in-None.is c.in_ok-first.ensures.none in
    no_first c.args.pieces (wants c.args.wanted) c.args.wanted.nodes.now (work_of c.args.self.now.items.items)
    c.requires.some
    (within_nothing 64 (wants c.args.wanted) c.args.wanted.nodes.now (work_of c.args.self.now.items.items) nothing)

pub returns-then-count-pieces-clause-taken : goal.returns-then-count-pieces-clause-taken
returns-then-count-pieces-clause-taken c = λ some.
    let number = c.in-Some.first.0 in
    let copies = c.in-Some.first.1 in
    let count = c.count-count.result in
    let n = c.min-n.result in
    let rest = work_of c.next_copies.new.self.items.items in
    let first = subst (λ (first : Option (ℕ × ℕ)). IfSome first
    (λ pair. work_of c.args.self.now.items.items ≡ replicate pair.1 pair.0
    ++ work_of c.next_copies.new.self.items.items)) c.in-Some.is c.in_ok-first.ensures.some in
    let least = c.min-n.ensures in
    let fits : n * count ≤ c.args.pieces = copies_fit copies c.args.pieces count n least in
    let few : n ≤ copies = omega (arith, least) in
    ap (taken c.args.pieces (wants c.args.wanted) c.args.wanted.nodes.now) first
    ∙ took_many (wants c.args.wanted) c.args.wanted.nodes.now n count c.args.pieces copies number rest
    (c.count-count.ensures c.if-count-gt0.true) fits few
    ∙ ap (taken (c.args.pieces - n * count) (wants c.args.wanted) c.args.wanted.nodes.now) (sym c.in_ok-put.ensures)

pub returns-then-branch-clause-taken : goal.returns-then-branch-clause-taken
returns-then-branch-clause-taken c = λ some.
    let first = subst (λ (first : Option (ℕ × ℕ)). IfSome first
    (λ pair. work_of c.args.self.now.items.items ≡ replicate pair.1 pair.0
    ++ work_of c.next_copies.new.self.items.items)) c.in-Some.is c.in_ok-first.ensures.some in
    ap (taken c.args.pieces (wants c.args.wanted) c.args.wanted.nodes.now) (first ∙ sym c.in_ok-put-2.ensures)
    ∙ took_first c.args.pieces (wants c.args.wanted) c.args.wanted.nodes.now (work_of c.put-2.new.self.items.items)
    (work_of c.take_one.new.self.items.items) c.requires.some (c.in_ok-take_one.ensures.taken c.if-branch.true)

pub returns-else-branch-clause-refused : goal.returns-else-branch-clause-refused
returns-else-branch-clause-refused c = λ is.
    let first = subst (λ (first : Option (ℕ × ℕ)). IfSome first
    (λ pair. work_of c.args.self.now.items.items ≡ replicate pair.1 pair.0
    ++ work_of c.next_copies.new.self.items.items)) c.in-Some.is c.in_ok-first.ensures.some in
    ap (taken c.args.pieces (wants c.args.wanted) c.args.wanted.nodes.now) (first ∙ sym c.in_ok-put-2.ensures)
    ∙ no_first c.args.pieces (wants c.args.wanted) c.args.wanted.nodes.now (work_of c.put-2.new.self.items.items)
    c.requires.some (c.in_ok-take_one.ensures.refused c.if-branch.false)
