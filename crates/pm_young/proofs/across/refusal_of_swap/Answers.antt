use Rattle.std.proofs.Common.{Some, ap, sym, ◌∙◌, refl}
use Rattle.pm_space.specs.Shown.{view}
use Rattle.pm_young.proofs.Judged.{swap_done, swap_first, swap_is_held, swap_is_null, swap_no_field, swap_second, swap_third}
use Rattle.pm_young.proofs.across.refusal_of_swap.Goals as goal

pub returns-in_default : goal.returns-in_default
returns-in_default g c = record {
  refusal = refl;
  answer_is = λ within world stands. swap_first (view c.args.space.now.parts) c.args.space.now.kept c.args.nursery.now c.sound.ensures within world stands c.args.client c.args.reg c.args.index c.args.old c.args.value (sym c.held_here.ensures ∙ c.in_default.is);
}

pub returns-in_default-held_here : goal.returns-in_default-held_here
returns-in_default-held_here g c = record {
  refusal = refl;
  answer_is = λ within world stands. swap_second (view c.args.space.now.parts) c.args.space.now.kept c.args.nursery.now c.sound.ensures within world stands c.args.client c.args.reg c.args.index c.args.old c.args.value (sym c.held_here-2.ensures ∙ c.in_default-held_here.is);
}

pub returns-in_default-held_here-2 : goal.returns-in_default-held_here-2
returns-in_default-held_here-2 g c = record {
  refusal = refl;
  answer_is = λ within world stands. swap_third (view c.args.space.now.parts) c.args.space.now.kept c.args.nursery.now c.sound.ensures within world stands c.args.client c.args.reg c.args.index c.args.old c.args.value (sym c.held_here-3.ensures ∙ c.in_default-held_here-2.is);
}

pub returns-in-None : goal.returns-in-None
returns-in-None g c = record {
  refusal = refl;
  answer_is = λ within world stands.
      swap_no_field (view c.args.space.now.parts) c.args.space.now.kept c.args.nursery.now c.sound.ensures within world stands c.args.client c.args.reg c.args.index c.args.old c.args.value c.in-Some.id c.in-Some-held_here.wanted c.in-Some-held_here-2.field-0 (sym c.held_here.ensures ∙ c.in-Some.is) (sym c.held_here-2.ensures ∙ c.in-Some-held_here.is) (sym c.held_here-3.ensures ∙ c.in-Some-held_here-2.is) (sym c.field_here.ensures ∙ c.in-None.is);
}

pub returns-in-Some-None : goal.returns-in-Some-None
returns-in-Some-None g c = record {
  refusal = refl;
  answer_is = λ within world stands.
      swap_is_null (view c.args.space.now.parts) c.args.space.now.kept c.args.nursery.now c.sound.ensures within world stands c.args.client c.args.reg c.args.index c.args.old c.args.value c.in-Some.id c.in-Some-held_here.wanted c.in-Some-held_here-2.field-0 (sym c.held_here.ensures ∙ c.in-Some.is) (sym c.held_here-2.ensures ∙ c.in-Some-held_here.is) (sym c.held_here-3.ensures ∙ c.in-Some-held_here-2.is) (sym c.field_here.ensures ∙ c.in-Some-None.is ∙ ap Some c.in-Some-None.field-0-is);
}

pub returns-in-Some-Some : goal.returns-in-Some-Some
returns-in-Some-Some g c = λ within world stands.
    swap_done (view c.args.space.now.parts) c.args.space.now.kept c.args.nursery.now c.sound.ensures within world stands c.args.client c.args.reg c.args.index c.args.old c.args.value c.in-Some.id c.in-Some-held_here.wanted c.in-Some-held_here-2.field-0 (sym c.held_here.ensures ∙ c.in-Some.is) (sym c.held_here-2.ensures ∙ c.in-Some-held_here.is) (sym c.held_here-3.ensures ∙ c.in-Some-held_here-2.is) c.in-Some-Some.found (sym c.field_here.ensures ∙ c.in-Some-Some.is ∙ ap Some c.in-Some-Some.field-0-is) c.if-found-wanted.true

pub returns-in-Some-Some-2 : goal.returns-in-Some-Some-2
returns-in-Some-Some-2 g c = record {
  refusal = refl;
  answer_is = λ within world stands.
      swap_is_held (view c.args.space.now.parts) c.args.space.now.kept c.args.nursery.now c.sound.ensures within world stands c.args.client c.args.reg c.args.index c.args.old c.args.value c.in-Some.id c.in-Some-held_here.wanted c.in-Some-held_here-2.field-0 (sym c.held_here.ensures ∙ c.in-Some.is) (sym c.held_here-2.ensures ∙ c.in-Some-held_here.is) (sym c.held_here-3.ensures ∙ c.in-Some-held_here-2.is) c.in-Some-Some.found (sym c.field_here.ensures ∙ c.in-Some-Some.is ∙ ap Some c.in-Some-Some.field-0-is) c.if-found-wanted.false;
}
