use Rattle.std.proofs.Common.{◌≡◌, ℕ, pos, List, ◌++◌, ap, ◌∙◌}
use Rattle.type_graph.specs.declared.width.Width.TheVariants.{Two}
use Rattle.type_graph.specs.declared.width.Order.TheVariants.{Big}
use Rattle.type_graph.specs.Words.{word}
use Rattle.giop.specs.inner.Targets.{TellsTarget}
use Rattle.giop.proofs.TargetSplits.{labelled_found, labelled_refused}
use Rattle.giop.proofs.reading.target.split_target.Goals as goal

-- the label that was told
at : (tape behind : List ℕ) (label n : ℕ) → tape ≡ word Big Two (pos label) ++ behind → label ≡ n
    → tape ≡ word Big Two (pos n) ++ behind
at tape behind label n e is = e ∙ ap (λ m. word Big Two (pos m) ++ behind) is

pub returns-in-0-clause-found : goal.returns-in-0-clause-found
returns-in-0-clause-found c =
    labelled_found (λ r target rest. TellsTarget target r.0 × (rest ≡ r.1.now)) 0 c.args.tape.now c.in-Some.behind.now
    c.split_key.result (at c.args.tape.now c.in-Some.behind.now c.in-Some.label 0 c.in-Some.ensures.found.1 c.in-0.is)
    c.split_key.ensures.found

pub returns-in-0-clause-refused : goal.returns-in-0-clause-refused
returns-in-0-clause-refused c =
    labelled_refused 0 c.args.tape.now c.in-Some.behind.now c.split_key.result
    (at c.args.tape.now c.in-Some.behind.now c.in-Some.label 0 c.in-Some.ensures.found.1 c.in-0.is)
    c.split_key.ensures.refused

pub returns-in-1-clause-found : goal.returns-in-1-clause-found
returns-in-1-clause-found c =
    labelled_found (λ r target rest. TellsTarget target r.0 × (rest ≡ r.1.now)) 1 c.args.tape.now c.in-Some.behind.now
    c.split_profile.result (at c.args.tape.now c.in-Some.behind.now c.in-Some.label 1 c.in-Some.ensures.found.1
    c.in-1.is)
    c.split_profile.ensures.found

pub returns-in-1-clause-refused : goal.returns-in-1-clause-refused
returns-in-1-clause-refused c =
    labelled_refused 1 c.args.tape.now c.in-Some.behind.now c.split_profile.result
    (at c.args.tape.now c.in-Some.behind.now c.in-Some.label 1 c.in-Some.ensures.found.1 c.in-1.is)
    c.split_profile.ensures.refused

pub returns-in-2-clause-found : goal.returns-in-2-clause-found
returns-in-2-clause-found c =
    labelled_found (λ r target rest. TellsTarget target r.0 × (rest ≡ r.1.now)) 2 c.args.tape.now c.in-Some.behind.now
    c.split_reference.result
    (at c.args.tape.now c.in-Some.behind.now c.in-Some.label 2 c.in-Some.ensures.found.1 c.in-2.is)
    c.split_reference.ensures.found

pub returns-in-2-clause-refused : goal.returns-in-2-clause-refused
returns-in-2-clause-refused c =
    labelled_refused 2 c.args.tape.now c.in-Some.behind.now c.split_reference.result
    (at c.args.tape.now c.in-Some.behind.now c.in-Some.label 2 c.in-Some.ensures.found.1 c.in-2.is)
    c.split_reference.ensures.refused
