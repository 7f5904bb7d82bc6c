use Rattle.std.proofs.Common.{◌∙◌, List, ℕ, ap, option_map, slice_get, sym}
use Rattle.giop_messages.specs.Headers.{profile_target}
use Rattle.call_client.proofs.Places.{no_profile, profile_there}
use Rattle.call_client.proofs.object_calls.reached.profile_at.Goals as goal

pub returns-in-None-clause-none : goal.returns-in-None-clause-none
returns-in-None-clause-none c = no_profile c.args.ior.now.profiles.items c.args.place
    (ap (λ xs. slice_get xs c.args.place) (sym c.as_slice.ensures.value) ∙ sym c.nth_profile.ensures
    ∙ ap (option_map (λ p. p.now)) c.in-None.is)

pub returns-in-Some-clause-found : goal.returns-in-Some-clause-found
returns-in-Some-clause-found c = record {
  profile = (c.in-Some.field-0.now.0, c.in-Some.field-0.now.1.items);
  there = profile_there c.args.ior.now.profiles.items c.args.place c.in-Some.field-0.now
      (ap (λ xs. slice_get xs c.args.place) (sym c.as_slice.ensures.value) ∙ sym c.nth_profile.ensures
      ∙ ap (option_map (λ p. p.now)) c.in-Some.is);
  is = ap (λ (octets : List ℕ). profile_target (c.in-Some.field-0.now.0, octets)) c.as_slice-in-Some.ensures.value;
}
