-- How one line of a batch is run.
use Rattle.std.proofs.Common.{◌≡◌, ◌∙◌, ◌⊎◌, inl, inr, ⊎_elim, ℕ, List, [], Option, Result, Ok, Err, true, false, refl, sym, subst, ap, arith}
use Rattle.std.specs.Prelude.{nat_le}
use Rattle.std.proofs.lemmas.Bool.{false≢true}
use Rattle.std.proofs.lemmas.List.{append-nil}
use Rattle.ddf_bytes.specs.declared.stamp.Stamp.{Stamp}
use Rattle.ddf_bytes.specs.Streams.{SinkRose, SinkState}
use Rattle.ddf_bay.specs.State.{BayState}
use Rattle.ddf_bay.proofs.Looks.{reads_start}
use Rattle.ddf_config.specs.declared.refusal.Refusal.TheVariants.{Words}
use Rattle.ddf_text.specs.Refusal.{refusal_line}
use Rattle.ddf_words.specs.Traits.{traits_of}
use Rattle.ddf_words.specs.Words.{Word, GoWrongAt}
use Rattle.ddf_words.specs.declared.command.Command.{Command}
use Rattle.ddf_words.specs.declared.command.Command.TheVariants.{Assemble, Change, Copyback, Examine, Import, Label, Read, Rebuild, Resync, Scrub, Show, Write}
use Rattle.ddf_words.specs.declared.traits.Traits.{Traits}
use Rattle.ddf_words.specs.declared.words.WordFault.{WordFault}
use Rattle.ddf_words.specs.declared.words.WordFault.TheVariants as faults
use Rattle.ddf_answer.specs.Call.{Answer, Work, answer_of, work_of}
use Rattle.ddf_answer.specs.Ends.{Ends, HasCause}
use Rattle.ddf_answer.proofs.Causes.{IsFaultless, fault_by, slot_by, stream_by, words_by}
use Rattle.ddf_answer.specs.Tells.{EndsWith}
use Rattle.ddf_command.specs.Run.{IsCommandDone}
use Rattle.ddf_words.specs.Lines.{AsksFor, IsLine, is_for_lines}
use Rattle.ddf_batch.specs.Line.{IsLineRun, Point, no_input}
use Rattle.ddf_command.proofs.Endings.{done_nothing, one_place}

few : (code number : ℕ) → code ≡ number → nat_le number 6 ≡ true → nat_le code 6 ≡ true
few code number same is = ap (λ (n : ℕ). nat_le n 6) same ∙ is

-- ---- the command was run

module _ {D : Type 0} (traits : Traits) (work : Work D) (answer : Answer) (rose : Type 0) where
  few_by : traits.takes_input ≡ false → HasCause traits work answer rose → nat_le answer.status 6 ≡ true
  few_by none (inl zero) = few answer.status 0 zero refl
  few_by none (inr (inl five)) = few answer.status 5 five refl
  few_by none (inr (inr (inl one))) = few answer.status 1 one.0 refl
  few_by none (inr (inr (inr (inl four)))) = few answer.status 4 four.0 refl
  few_by none (inr (inr (inr (inr (inl three))))) = few answer.status 3 three.0 refl
  few_by none (inr (inr (inr (inr (inr (inl six)))))) = few answer.status 6 six.0 refl
  few_by none (inr (inr (inr (inr (inr (inr seven)))))) = absurd (false≢true (sym none ∙ seven.1))

  -- where nothing failed, of a command that takes no input
  uncut : traits.takes_input ≡ false → IsFaultless traits answer
      → (answer.status ≡ 0) ⊎ (answer.status ≡ 5) ⊎ ((answer.status ≡ 1) × (traits.may_refuse ≡ true)) ⊎ ((answer.status ≡ 4) × (traits.takes_group ≡ true))
  uncut none (inl zero) = inl zero
  uncut none (inr (inl five)) = inr (inl five)
  uncut none (inr (inr (inl one))) = inr (inr (inl one))
  uncut none (inr (inr (inr (inl four)))) = inr (inr (inr four))
  uncut none (inr (inr (inr (inr seven)))) = absurd (false≢true (sym none ∙ seven.1))

-- a line's command takes no input
pub takes_none : (command : Command) → is_for_lines command ≡ true → (traits_of command).takes_input ≡ false
takes_none Examine is = refl
takes_none (Label style large slots) is = refl
takes_none Assemble is = refl
takes_none Show is = refl
takes_none (Read name start count) is = refl
takes_none (Scrub name) is = refl
takes_none (Resync name) is = refl
takes_none (Rebuild name) is = refl
takes_none (Copyback name slot) is = refl
takes_none (Write name start count) is = absurd (cc)
takes_none (Import group) is = refl
takes_none (Change wish) is = refl

-- so where a stream of one failed its output did
pub untaken : (command : Command) → is_for_lines command ≡ true → {sink input : Type 0} → sink ⊎ (((traits_of command).takes_input ≡ true) × input) → sink
untaken command is rose = ⊎_elim (λ failed. failed) (λ taken. absurd (false≢true (sym (takes_none command is) ∙ taken.0))) rose

module _ {B : Type 0} (tells : Type 0) (disks : B → BayState B) (told : Type 0) (stamp : Stamp) (group : Option (List ℕ)) (words : List Word) where
  pub command_run : (from to : Point B) (code : ℕ) (command : Command) → AsksFor words command → ((other : Command) → AsksFor words other → other ≡ command)
      → IsCommandDone (work_of tells (disks from.bay) (disks to.bay)) no_input stamp group command (answer_of told from.output to.output code)
      → Ends (traits_of command) (work_of tells (disks from.bay) (disks to.bay)) (answer_of told from.output to.output code)
      → IsLineRun tells disks told stamp group words from to code
  command_run from to code command asks one done ends =
      let work = work_of tells (disks from.bay) (disks to.bay) in
      let answer = answer_of told from.output to.output code in
      let rose = SinkRose from.output to.output in
      record {
        wrong_words = λ place wrong. absurd (wrong.refused (record { command = command; asks = asks }));
        wrong_words_only = λ two. absurd (words_by (traits_of command) work answer rose ends.cause two);
        done = λ other also. subst (λ (it : Command). IsCommandDone work no_input stamp group it answer) (sym (one other also)) done;
        few = few_by (traits_of command) work answer rose (takes_none command asks.is_for_lines) ends.cause;
        unwritten = ends.unwritten;
        stays = λ none. ends.stays (none command asks);
        goes_on = ends.goes_on;
        same_sizes = ends.same_sizes;
        disk_fault = slot_by (traits_of command) work answer rose ends.cause;
        stream_fault = stream_by (traits_of command) work answer rose ends.cause;
        complete = λ other also none good. subst (λ (it : Command). (code ≡ 0) ⊎ (code ≡ 5) ⊎ ((code ≡ 1) × ((traits_of it).may_refuse ≡ true)) ⊎ ((code ≡ 4) × ((traits_of it).takes_group ≡ true))) (sym (one other also))
            (uncut (traits_of command) work answer rose (takes_none command asks.is_for_lines) (fault_by (traits_of command) work answer rose ends.cause none good));
      }

  -- ---- the words aren't a command's

  module _ (bay : B) (before after : SinkState) (code : ℕ) where
    pub words_refused : (place : ℕ) → GoWrongAt IsLine words place → EndsWith 2 (refusal_line (Words place)) (answer_of told before after code) → (code ≡ 6 → SinkRose before after)
        → IsLineRun tells disks told stamp group words (record { bay = bay; output = before }) (record { bay = bay; output = after }) code
    words_refused place wrong ends stream = record {
      wrong_words = λ other also. subst (λ (p : ℕ). EndsWith 2 (refusal_line (Words p)) (answer_of told before after code)) (one_place IsLine words place other wrong also) ends;
      wrong_words_only = λ two. (place, wrong);
      done = λ command asks. absurd (wrong.refused (record { command = command; asks = asks }));
      few = ⊎_elim (λ two. few code 2 two refl) (λ cut. ⊎_elim (λ five. few code 5 five refl) (λ six. few code 6 six refl) cut) ends.ends;
      unwritten = λ is. reads_start (disks bay);
      stays = λ none. reads_start (disks bay);
      goes_on = λ later leads. leads;
      same_sizes = refl;
      disk_fault = λ three. absurd (⊎_elim (λ two. omega (arith, three, two)) (λ cut. ⊎_elim (λ five. omega (arith, three, five)) (λ six. omega (arith, three, six)) cut) ends.ends);
      stream_fault = stream;
      complete = λ command asks none good. absurd (wrong.refused (record { command = command; asks = asks }));
    }

  -- ---- memory ran out as they were read

  pub words_unread : (bay : B) (output : SinkState) → IsLineRun tells disks told stamp group words (record { bay = bay; output = output }) (record { bay = bay; output = output }) 5
  words_unread bay output = record {
    wrong_words = λ place wrong. told_nothing output (refusal_line (Words place));
    wrong_words_only = λ two. absurd (omega (arith, two));
    done = λ command asks. done_nothing (disks bay) tells told output (Unit {0}) (record { left = []; faults = 0 }) stamp group command;
    few = refl;
    unwritten = λ is. reads_start (disks bay);
    stays = λ none. reads_start (disks bay);
    goes_on = λ later leads. leads;
    same_sizes = refl;
    disk_fault = λ three. absurd (omega (arith, three));
    stream_fault = λ six. absurd (omega (arith, six));
    complete = λ command asks none good. inr (inl refl);
  }
    where
      told_nothing : (output : SinkState) (text : List ℕ) → EndsWith 2 text (answer_of told output output 5)
      told_nothing output text = record {
        ends = inr (inl refl);
        tells = λ is. record { whole = λ low. absurd (omega (arith, low)); front = record { count = 0; within = omega arith; front = sym (append-nil output.taken) } };
      }

-- a line asks for one command
pub one_command : (result : Result Command WordFault) (one other : Command) → result ≡ Ok one → (result ≡ Ok other) ⊎ (result ≡ Err faults.Memory) → other ≡ one
one_command result one other is (inl also) = cc
one_command result one other is (inr memory) = cc
