use Rattle.std.proofs.Common.{◌≡◌, inr, List, [], ◌∷◌, refl, sym, ◌∙◌, arith}
use Rattle.pm_types.specs.declared.command.Cmd.{Cmd}
use Rattle.pm_script.specs.Parted.Left.{lists_in}
use Rattle.pm_script.specs.Parted.Lists.{count_left, list_of}
use Rattle.pm_engine.specs.Shown.{serving, unmade_in}
use Rattle.pm_engine.specs.declared.unmade.Unmade.TheVariants.{OfClient}
use Rattle.pm_lock.proofs.Engines.{book_answered, book_failed, left_client, one_left, popped_fewer, popped_next}
use Rattle.pm_lock.proofs.Turning.{not_collector, not_flusher, steps_finished}
use Rattle.pm_lock.proofs.book.Book.step_client.Goals as goal

pub returns-in_default : goal.returns-in_default
returns-in_default g c =
    steps_finished c.args.self.now _ g.F.Fn c.args.client c.requires.running (record {
      client = λ _. c.in_default.ensures.none;
      collector = λ is. absurd (not_collector c.args.client c.requires.client is);
      flusher = λ is. absurd (not_flusher c.args.client c.requires.client is);
    })

pub ask-requires-clause-room : goal.ask-requires-clause-room
ask-requires-clause-room g c =
    let some = c.in-Some.ensures.some in
    let within = c.keep_its_engine.ensures.room in
    let left = one_left (lists_in c.args.self.now.parts) c.args.client c.in-Some.cmd.now some.0 some.1 in
    omega (arith, within, left)

pub invariant_of-self-in-Ok : goal.invariant_of-self-in-Ok
invariant_of-self-in-Ok g c =
    let self = c.args.self.now in
    let some = c.in-Some.ensures.some in
    let cmd = c.in-Some.cmd.now in
    let popped = c.pop.ensures in
    let later = lists_in c.pop.new.self in
    record {
      kept =
          book_answered self.script.value self.first.value self.engine c.ask.new.engine (lists_in self.parts) self.collects self.flushes self.fault c.requires.running self.kept later c.args.client cmd c.in-Ok.ensures.adds c.in-Ok.ensures.engine c.in-Ok.ensures.call.unmade c.requires.client
          (popped_next c.pop.result (list_of (lists_in self.parts) c.args.client) (list_of later c.args.client) some.0 cmd popped.none popped.some some.1) popped.others
          (popped_fewer c.pop.result (list_of (lists_in self.parts) c.args.client) some.0 cmd (count_left later) (count_left (lists_in self.parts)) popped.none some.1 popped.fewer);
    }

pub invariant_of-self-in-Err : goal.invariant_of-self-in-Err
invariant_of-self-in-Err g c =
    let self = c.args.self.now in
    let some = c.in-Some.ensures.some in
    record {
      kept =
          book_failed self.script.value self.first.value self.engine c.ask.new.engine (lists_in self.parts) self.collects self.flushes self.fault c.requires.running self.kept c.in-Err.fault c.in-Err.ensures.call.fails c.keep_their_images.ensures.counted c.in-Err.ensures.engine
          (left_client (serving self.engine) (serving c.ask.new.engine) (lists_in self.parts) self.collects self.flushes c.args.client c.in-Some.cmd.now some.0 c.in-Err.fault (unmade_in self.engine) (unmade_in c.ask.new.engine) some.1 c.in-Err.ensures.short c.in-Err.ensures.call.unmade)
          (OfClient c.args.client) c.in-Err.ensures.call.unmade;
    }

pub returns-in-Err : goal.returns-in-Err
returns-in-Err g c =
    let some = c.in-Some.ensures.some in
    record {
      first = refl;
      lines = refl;
      start = c.in-Err.ensures.engine.start;
      does = inr (record {
        fault = c.in-Err.fault;
        before = c.requires.running;
        after = refl;
        lists = refl;
        collects = refl;
        flushes = refl;
        client = λ _. record { cmd = c.in-Some.cmd.now; rest = some.0; next = some.1; call = c.in-Err.ensures.call };
        collector = λ is. absurd (not_collector c.args.client c.requires.client is);
        flusher = λ is. absurd (not_flusher c.args.client c.requires.client is);
      });
      finished = (λ is. absurd (cc is), λ both. let never : [] ≡ c.in-Some.cmd.now ∷ some.0 = sym (both.1.client c.requires.client) ∙ some.1 in absurd (cc never));
      stopped = (λ _. refl, λ _. refl);
    }
