use Rattle.std.proofs.Common.{◌≡◌, ℕ, suc, zero, ◌+◌, ◌<◌, ◌≤◌, List, [], ◌∷◌, ◌++◌, get_or, length, take, arith, ap, sym, subst, ◌∙◌}
use Rattle.std.specs.List.{AllByRecursion}
use Rattle.std.proofs.lemmas.List.{append-nil, length-set}
use Rattle.pm_types.specs.declared.limits.TheConstants.{CLIENTS}
use Rattle.pm_model.specs.declared.request.Request.{Request}
use Rattle.pm_model.specs.Journal.{commands_of}
use Rattle.pm_script.specs.declared.line.Line.{Line}
use Rattle.pm_script.specs.Script.{first_of}
use Rattle.pm_script.specs.Words.{IsFirst}
use Rattle.pm_script.specs.Parted.Asked.{request_of, requests_asked}
use Rattle.pm_script.proofs.PartedLemmas.Parting.{count_goes, count_within, requests_more}
use Rattle.pm_script.proofs.parted.split.count_commands.Goals as goal
use Rattle.pm_script.proofs.parted.split.count_commands.Goals.{in-Client, in-Gc, in-Flush}

-- a line that asks no command
counts_none : (lines : List Line) (i : ℕ) (line : Line) (client count : ℕ) → i < length lines → line ≡ get_or lines i line → request_of line ≡ [] → count ≡ length (commands_of client (requests_asked (take i lines))) → count ≡ length (commands_of client (requests_asked (take (i + 1) lines)))
counts_none lines i line client count lt is none was =
    was ∙ ap (λ (asked : List Request). length (commands_of client asked)) (sym (requests_more lines i line lt is ∙ ap (λ (more : List Request). requests_asked (take i lines) ++ more) none ∙ append-nil (requests_asked (take i lines))))

-- what holds of each line holds of this one
of_each : (P : Line → Type 0) (lines : List Line) (i : ℕ) (line : Line) → AllByRecursion P lines → i < length lines → line ≡ get_or lines i line → P line
of_each P [] i line all lt is = absurd (omega arith)
of_each P (first ∷ lines) zero line all lt is = subst P (sym is) all.0
of_each P (first ∷ lines) (suc i) line all lt is = of_each P lines i line all.1 (omega arith) is

stays : (lines : List Line) (i : ℕ) (line : Line) (counts now : List ℕ) → now ≡ counts → i < length lines → line ≡ get_or lines i line → request_of line ≡ []
    → ((client : ℕ) → client < CLIENTS → get_or counts client 0 ≡ length (commands_of client (requests_asked (take i lines)))) → length counts ≡ CLIENTS → ((client : ℕ) → client < CLIENTS → get_or counts client 0 ≤ i)
    → record {
      counted : (client : ℕ) → client < CLIENTS → get_or now client 0 ≡ length (commands_of client (requests_asked (take (i + 1) lines)));
      long : length now ≡ CLIENTS;
      few : (client : ℕ) → client < CLIENTS → get_or now client 0 ≤ i + 1;
    }
stays lines i line counts now same lt is none counted long few = record {
  counted = λ client within. ap (λ (cs : List ℕ). get_or cs client 0) same ∙ counts_none lines i line client (get_or counts client 0) lt is none (counted client within);
  long = ap (length {A = ℕ}) same ∙ long;
  few = λ client within. let still = ap (λ (cs : List ℕ). get_or cs client 0) same in let was = few client within in omega (arith, still, was);
}

pub loop-line-preserved : goal.loop-line-preserved
loop-line-preserved c =
    let lines = c.args.lines.now in
    let i = c.loop-line.line-index in
    let line = c.line-item.result in
    let counts = c.loop-line.counts in
    let now = c.match-line.counts in
    let was = c.loop-line.invariant in
    let asked = requests_asked (take i lines) in
    elim c.match-line.branch [
      | in-Client w ↦
          (let client = w.in-Client.client in
          let cmd = w.in-Client.cmd in
          let more = requests_more lines i line c.loop-line-test.true c.line-item.is ∙ ap (λ (one : Line). asked ++ request_of one) w.in-Client.is in
          let first = subst (λ (one : Line). IsFirst (first_of one)) w.in-Client.is (of_each (λ (one : Line). IsFirst (first_of one)) lines i line c.requires.clients c.loop-line-test.true c.line-item.is) in
          let long = was.long in
          let bound : client < length counts = omega (arith, long, first) in
          record {
            counted = λ one lt. count_goes counts now client w.counts-is bound asked cmd one (was.counted one lt) ∙ sym (ap (λ (all : List Request). length (commands_of one all)) more);
            long = ap (length {A = ℕ}) w.counts-is ∙ length-set counts client (get_or counts client 0 + 1) ∙ long;
            few = λ one lt. count_within counts now client w.counts-is bound i one (was.few one lt);
          })
      | in-Gc w ↦ stays lines i line counts now w.counts-is c.loop-line-test.true c.line-item.is (ap request_of w.in-Gc.is) was.counted was.long was.few
      | in-Flush w ↦ stays lines i line counts now w.counts-is c.loop-line-test.true c.line-item.is (ap request_of w.in-Flush.is) was.counted was.long was.few
    ]
