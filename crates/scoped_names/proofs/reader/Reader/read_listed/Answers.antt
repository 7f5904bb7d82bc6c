use Rattle.std.proofs.Common.{◌≡◌, ◌∙◌, ◌++◌, map, subst, sym, ap}
use Rattle.name_table.specs.Entries.{latest}
use Rattle.name_steps.specs.StepsKept.{flat_steps, step_of}
use Rattle.scoped_names.specs.Faults.{steps_read}
use Rattle.scoped_names.specs.Reading.{Tells}
use Rattle.scoped_names.specs.inner.Rising.{Rises}
use Rattle.scoped_names.proofs.reader.Reader.read_listed.Goals as goal

pub read_steps-requires : goal.read_steps-requires
read_steps-requires c =
    let xs = flat_steps c.args.d.now in
    let listed : map step_of c.as_slice.result.now ≡ xs = ap (map step_of) c.as_slice.ensures ∙ c.in_ok-add_flat.ensures
    ∙ ap (λ ys. ys ++ xs) c.requires.none in
    subst (Rises (latest c.args.self.now.entries)) (sym listed) c.requires.rises

pub returns : goal.returns
returns c =
    let xs = flat_steps c.args.d.now in
    let listed : map step_of c.as_slice.result.now ≡ xs = ap (map step_of) c.as_slice.ensures ∙ c.in_ok-add_flat.ensures
    ∙ ap (λ ys. ys ++ xs) c.requires.none in
    subst (λ ys. Tells c.read_steps.result c.read_steps.new.self (steps_read c.args.self.now ys)) listed
    c.read_steps.ensures
