-- Where the code looks attributes up.
use Rattle.std.proofs.Common.{◌≡◌, ℕ, suc, ◌<◌, false, cond, List, length, drop, get_or, sym, ap, ◌∙◌, Option, Some, None, option_and_then, slice_get}
use Rattle.std.specs.Option.{option_map_or}
use Rattle.std.specs.Str.{bytes_eq}
use Rattle.std.proofs.Math.Seq.{drop-cons}
use Rattle.type_model.specs.declared.signatures.Operation.{Operation}
use Rattle.type_model.specs.ModelRules.{Parts}
use Rattle.broker_answers.specs.Attributes.{action_at, gets, got_by, is_getter_of, place_from}
use Rattle.broker_answers.proofs.Names.{none_isnt}

got_of : (name key : List ℕ) (o : Option Operation) → option_and_then got_by o ≡ Some key
    → option_map_or (gets name) o false ≡ bytes_eq key name
got_of name key None e = absurd (none_isnt key e)
got_of name key (Some operation) e = ap (λ g. option_map_or (λ other. bytes_eq other name) g false) e

-- one more attribute, in front of those that are there
pub one_more : (model : Parts) (getters : List ℕ) (p q : ℕ) (before after : Option ℕ) (key name : List ℕ)
    → after ≡ cond (bytes_eq key name) (Some p) before
    → option_and_then got_by (slice_get model.operations (get_or getters p 0)) ≡ Some key
    → before ≡ place_from model q name (drop q getters) → q ≡ suc p → p < length getters
    → after ≡ place_from model p name (drop p getters)
one_more model getters p q before after key name updates got was next less =
    updates
    ∙ ap (λ b. cond b (Some p) before) (sym (got_of name key (slice_get model.operations (get_or getters p 0)) got))
    ∙ ap (cond (is_getter_of model name (get_or getters p 0)) (Some p))
    (was ∙ ap (λ n. place_from model n name (drop n getters)) next)
    ∙ ap (place_from model p name) (sym (drop-cons getters p 0 less))

-- what an operation does is by where attributes are, however they are looked up
pub same_deed : (model : Parts) (number : ℕ) (one other : List ℕ → Option ℕ) → ((name : List ℕ) → one name ≡ other name)
    → action_at one model number ≡ action_at other model number
same_deed model number one other same = ap (λ place. action_at place model number) (λ i name. same name i)
