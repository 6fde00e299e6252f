use Rattle.std.proofs.Common.{ap, sym, ◌∙◌, refl}
use Rattle.pm_space.specs.Shown.{view}
use Rattle.pm_young.proofs.Judged.{store_done, store_first, store_second, store_third}
use Rattle.pm_young.proofs.across.refusal_of_store.Goals as goal

pub returns-in_default : goal.returns-in_default
returns-in_default g c = record {
  refusal = refl;
  answer_is = λ within world stands. store_first (view c.args.space.now.parts) c.args.space.now.kept c.args.nursery.now c.sound.ensures within world stands c.args.client c.args.reg c.args.index c.args.value (sym c.held_here.ensures ∙ c.in_default.is);
}

pub returns-in_default-held_here : goal.returns-in_default-held_here
returns-in_default-held_here g c = record {
  refusal = refl;
  answer_is = λ within world stands. store_second (view c.args.space.now.parts) c.args.space.now.kept c.args.nursery.now c.sound.ensures within world stands c.args.client c.args.reg c.args.index c.args.value (sym c.held_here-2.ensures ∙ c.in_default-held_here.is);
}

pub returns-in-None : goal.returns-in-None
returns-in-None g c = record {
  refusal = refl;
  answer_is = λ within world stands.
      store_third (view c.args.space.now.parts) c.args.space.now.kept c.args.nursery.now c.sound.ensures within world stands c.args.client c.args.reg c.args.index c.args.value c.in-Some.id c.in-Some-held_here.field-0 (sym c.held_here.ensures ∙ c.in-Some.is) (sym c.held_here-2.ensures ∙ c.in-Some-held_here.is) (sym c.field_here.ensures ∙ c.in-None.is);
}

pub returns-in-Some-field_here : goal.returns-in-Some-field_here
returns-in-Some-field_here g c = λ within world stands.
    store_done (view c.args.space.now.parts) c.args.space.now.kept c.args.nursery.now c.sound.ensures within world stands c.args.client c.args.reg c.args.index c.args.value c.in-Some.id c.in-Some-held_here.field-0 c.in-Some-field_here.field-0 (sym c.held_here.ensures ∙ c.in-Some.is) (sym c.held_here-2.ensures ∙ c.in-Some-held_here.is) (sym c.field_here.ensures ∙ c.in-Some-field_here.is)
