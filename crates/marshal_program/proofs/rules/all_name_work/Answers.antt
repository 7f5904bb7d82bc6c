use Rattle.marshal_program.proofs.Works.{marked_work, none_marked}
use Rattle.marshal_program.proofs.rules.all_name_work.Goals as goal

pub note_works-requires-clause-none : goal.note_works-requires-clause-none
note_works-requires-clause-none c = none_marked 8192

pub returns : goal.returns
returns c =
    let same = marked_work c.args.routines.now c.note_works.new.works c.note_works.ensures in
    (λ yes. same.0 (c.all_name_marked.ensures.0 yes), λ all. c.all_name_marked.ensures.1 (same.1 all))
