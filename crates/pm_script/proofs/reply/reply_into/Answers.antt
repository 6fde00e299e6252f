use Rattle.std.proofs.Common.{◌∙◌, arith}
use Rattle.pm_script.proofs.TextLemmas.{client_long, kept}
use Rattle.pm_script.proofs.reply.reply_into.Goals as goal

pub put_number-at-requires : goal.put_number-at-requires
put_number-at-requires c = let one = client_long c.args.entry.now.client c.requires.client in omega (arith, one, c.requires.room)

pub put-at-requires : goal.put-at-requires
put-at-requires c = let one = client_long c.args.entry.now.client c.requires.client in omega (arith, one, c.requires.room, c.put_number-at.ensures.ends, c.put_number-at.auto.out)

pub put-at-requires-2 : goal.put-at-requires-2
put-at-requires-2 c =
    let one = client_long c.args.entry.now.client c.requires.client in
    let fits = c.parts.ensures.short c.requires.short in
    omega (arith, one, fits, c.requires.room, c.put_number-at.ensures.ends, c.put-at.ensures.ends, c.put_number-at.auto.out, c.put-at.auto.out)

pub put_ending-at-requires : goal.put_ending-at-requires
put_ending-at-requires c =
    let one = client_long c.args.entry.now.client c.requires.client in
    let fits = c.parts.ensures.short c.requires.short in
    omega
    (arith, one, fits, c.requires.room, c.put_number-at.ensures.ends, c.put-at.ensures.ends, c.put-at-2.ensures.ends, c.put_number-at.auto.out, c.put-at.auto.out, c.put-at-2.auto.out)

pub put-requires : goal.put-requires
put-requires c =
    let one = client_long c.args.entry.now.client c.requires.client in
    let fits = c.parts.ensures.short c.requires.short in
    omega (
      arith,
      one,
      fits,
      c.requires.room,
      c.put_number-at.ensures.ends,
      c.put-at.ensures.ends,
      c.put-at-2.ensures.ends,
      c.put_ending-at.ensures.ends,
      c.put_number-at.auto.out,
      c.put-at.auto.out,
      c.put-at-2.auto.out,
      c.put_ending-at.auto.out,
    )

pub returns-clause-rest : goal.returns-clause-rest
returns-clause-rest c =
    let end = c.put.result in
    let a = kept c.put_number-at.result end c.put_number-at.new.out c.args.out.now (omega (arith, c.put-at.ensures.ends, c.put-at-2.ensures.ends, c.put_ending-at.ensures.ends, c.put.ensures.ends)) c.put_number-at.ensures.rest in
    let b = kept c.put-at.result end c.put-at.new.out c.put_number-at.new.out (omega (arith, c.put-at-2.ensures.ends, c.put_ending-at.ensures.ends, c.put.ensures.ends)) c.put-at.ensures.rest in
    let d = kept c.put-at-2.result end c.put-at-2.new.out c.put-at.new.out (omega (arith, c.put_ending-at.ensures.ends, c.put.ensures.ends)) c.put-at-2.ensures.rest in
    let e = kept c.put_ending-at.result end c.put_ending-at.new.out c.put-at-2.new.out (omega (arith, c.put.ensures.ends)) c.put_ending-at.ensures.rest in
    c.put.ensures.rest ∙ e ∙ d ∙ b ∙ a
