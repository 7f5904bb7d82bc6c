use Rattle.std.proofs.Common.{rules, ap, refl, sym, subst, ◌≡◌, ◌∙◌, ◌⊎◌, inl, inr, IsErrAnd, Some}
use Rattle.clap.specs.Words.{app_of, fault_of, is_simple, is_simple_and_free, subcommand_of, takes}
use Rattle.clap.specs.declared.builder.value_parser.ValueParser.TheVariants.{Names}
use Rattle.command_words.specs.Ask.{asked_of}
use Rattle.command_words.specs.Commands.{program_app}
use Rattle.command_words.specs.Mistake.{IsOfWords}
use Rattle.command_words.specs.Words.{AreMistakes, AreUnclear, TakesOrders, texts}
use Rattle.command_words.specs.declared.mistake.Mistake.{Mistake}
use Rattle.command_words.specs.declared.mistake.Mistake.TheVariants.{NoMemory}
use Rattle.command_words.specs.declared.task.Line.{Line}
use Rattle.command_words.proofs.Mistakes.{no_mistakes, refused_words, told_or_refused}
use Rattle.command_words.proofs.line.read.Goals as goal

pub returns-in-Err-clause-asked : goal.returns-in-Err-clause-asked
returns-in-Err-clause-asked c asked asks =
    let orders : TakesOrders (Names c.as_slice.result) =
    record { names = c.as_slice.result; is_of_names = refl; are_orders = search rules } in
    let app_is : app_of c.in_ok-program.field-0 ≡ program_app (Names c.as_slice.result) = c.in_ok-program.ensures in
    let read = asks (Names c.as_slice.result) orders in
    let none = c.help_or_fault.ensures.memory
    (c.in-Err.ensures.passes (ap (λ app. takes app (texts c.args.words.now)) app_is ∙ read.taken)) in
    rw none refl

pub returns-in-Err-clause-explains : goal.returns-in-Err-clause-explains
returns-in-Err-clause-explains c flag asks =
    let orders : TakesOrders (Names c.as_slice.result) =
    record { names = c.as_slice.result; is_of_names = refl; are_orders = search rules } in
    let app_is : app_of c.in_ok-program.field-0 ≡ program_app (Names c.as_slice.result) = c.in_ok-program.ensures in
    let read = asks (Names c.as_slice.result) orders in
    let none = c.help_or_fault.ensures.memory
    (c.in-Err.ensures.passes (ap (λ app. takes app (texts c.args.words.now)) app_is ∙ read.taken)) in
    rw none tt

pub returns-in-Err-clause-mistaken : goal.returns-in-Err-clause-mistaken
returns-in-Err-clause-mistaken c mistaken =
    let orders : TakesOrders (Names c.as_slice.result) =
    record { names = c.as_slice.result; is_of_names = refl; are_orders = search rules } in
    by_cause (mistaken (Names c.as_slice.result) orders) where
      by_cause : AreMistakes (fault_of (program_app (Names c.as_slice.result)) (texts c.args.words.now))
          ⊎ AreUnclear (program_app (Names c.as_slice.result)) (texts c.args.words.now)
          → IsErrAnd c.help_or_fault.result IsOfWords
      by_cause (inl wrong) =
          let app_is : app_of c.in_ok-program.field-0 ≡ program_app (Names c.as_slice.result) =
          c.in_ok-program.ensures in
          let mistakes : AreMistakes (fault_of (app_of c.in_ok-program.field-0) (texts c.args.words.now)) =
          subst (λ app. AreMistakes (fault_of app (texts c.args.words.now))) (sym app_is) wrong in
          refused_words _ c.in-Err.error mistakes (c.in-Err.ensures.kinds (ap is_simple_and_free app_is)) _
          c.help_or_fault.ensures.memory c.help_or_fault.ensures.usage c.help_or_fault.ensures.err
      by_cause (inr unclear) =
          let app_is : app_of c.in_ok-program.field-0 ≡ program_app (Names c.as_slice.result) =
          c.in_ok-program.ensures in
          let none = c.help_or_fault.ensures.memory
          (c.in-Err.ensures.passes (ap (λ app. takes app (texts c.args.words.now)) app_is ∙ unclear.taken)) in
          rw none tt

pub returns-in-Ok-clause-asked : goal.returns-in-Ok-clause-asked
returns-in-Ok-clause-asked c asked asks =
    let orders : TakesOrders (Names c.as_slice.result) =
    record { names = c.as_slice.result; is_of_names = refl; are_orders = search rules } in
    let app_is : app_of c.in_ok-program.field-0 ≡ program_app (Names c.as_slice.result) = c.in_ok-program.ensures in
    let read = asks (Names c.as_slice.result) orders in
    let command = (c.in-Ok.ensures.matches (ap is_simple app_is)).1
    ∙ ap (λ app. subcommand_of app (texts c.args.words.now)) app_is ∙ read.command in
    told_or_refused c.line_in.result (λ (line : Line). asked_of line.said ≡ Some asked)
    (λ (fault : Mistake). fault ≡ NoMemory)
    (c.line_in.ensures.asked asked read.rows command read.tells)

pub returns-in-Ok-clause-explains : goal.returns-in-Ok-clause-explains
returns-in-Ok-clause-explains c flag asks =
    let orders : TakesOrders (Names c.as_slice.result) =
    record { names = c.as_slice.result; is_of_names = refl; are_orders = search rules } in
    let app_is : app_of c.in_ok-program.field-0 ≡ program_app (Names c.as_slice.result) = c.in_ok-program.ensures in
    let read = asks (Names c.as_slice.result) orders in
    let command = (c.in-Ok.ensures.matches (ap is_simple app_is)).1
    ∙ ap (λ app. subcommand_of app (texts c.args.words.now)) app_is ∙ read.command in
    c.line_in.ensures.explains read.name read.rows flag command read.tells

pub returns-in-Ok-clause-mistaken : goal.returns-in-Ok-clause-mistaken
returns-in-Ok-clause-mistaken c mistaken =
    let orders : TakesOrders (Names c.as_slice.result) =
    record { names = c.as_slice.result; is_of_names = refl; are_orders = search rules } in
    by_cause (mistaken (Names c.as_slice.result) orders) where
      app_is : app_of c.in_ok-program.field-0 ≡ program_app (Names c.as_slice.result)
      app_is = c.in_ok-program.ensures

      by_cause : AreMistakes (fault_of (program_app (Names c.as_slice.result)) (texts c.args.words.now))
          ⊎ AreUnclear (program_app (Names c.as_slice.result)) (texts c.args.words.now)
          → IsErrAnd c.line_in.result IsOfWords
      by_cause (inl wrong) =
          let mistakes : AreMistakes (fault_of (app_of c.in_ok-program.field-0) (texts c.args.words.now)) =
          subst (λ app. AreMistakes (fault_of app (texts c.args.words.now))) (sym app_is) wrong in
          absurd (no_mistakes _ mistakes (c.in-Ok.ensures.kinds (ap is_simple_and_free app_is)))
      by_cause (inr are) =
          let command = (c.in-Ok.ensures.matches (ap is_simple app_is)).1
          ∙ ap (λ app. subcommand_of app (texts c.args.words.now)) app_is ∙ are.command in
          let told = c.line_in.ensures.unclear are.rows command are.unclear in rw told tt
