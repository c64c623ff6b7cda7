use Rattle.std.proofs.Common.{◌∙◌, [], inl, refl, sym, ap}
use Rattle.std.specs.List.{sum}
use Rattle.ddf_bytes.specs.Memory.{output_of}
use Rattle.ddf_answer.specs.Status.{code_of}
use Rattle.ddf_exercise.specs.Blocks.{bytes_behind, bytes_of_blocks}
use Rattle.ddf_exercise.specs.Taking.{given}
use Rattle.ddf_exercise.proofs.Counting.{counts_no_stream}
use Rattle.ddf_exercise.proofs.ReadBack.{bytes_are, found_is, tells_along}
use Rattle.ddf_exercise.proofs.exercising.read_back.Goals as goal

pub returns-then-code-ne0 : goal.returns-then-code-ne0
returns-then-code-ne0 c = λ stamp named.
    let bytes = bytes_are c.args.steps.now c.as_slice.result.now c.as_slice-2.result.now (c.as_slice.ensures.value ∙ c.in-Ok.ensures.blocks)
    (c.as_slice-2.ensures.value ∙ c.in-Ok-bytes_of_blocks.ensures) in (
      inl (record {
        after = output_of c.read-status.new.sink;
        status = code_of c.read-status.result;
        call = record { left = given []; done = rw (named, c.in-Ok-new.ensures) at c.read-status.ensures.done; goes_on = c.read-status.ensures.ends.goes_on; stays = c.read-status.ensures.ends.stays };
        counts = record {
          as_it_should = c.is_told.result;
          tells = tells_along c.is_told.result c.bytes.result.now c.read-status.new.sink.taken c.as_slice-2.result.now (bytes_behind c.args.steps.now) c.bytes.ensures bytes c.is_told.ensures;
          is_code = c.counted-status.ensures;
        };
      }),
      (λ zero. c.if-code-ne0.true (c.code.ensures ∙ zero)),
      (λ six. counts_no_stream (code_of c.read-status.result) c.is_told.result (sym c.counted-status.ensures ∙ six)),
    )

pub returns : goal.returns
returns c = λ stamp named.
    let bytes = bytes_are c.args.steps.now c.as_slice.result.now c.as_slice-2.result.now (c.as_slice.ensures.value ∙ c.in-Ok.ensures.blocks)
    (c.as_slice-2.ensures.value ∙ c.in-Ok-bytes_of_blocks.ensures) in (
      inl (record {
        after = output_of c.read-status.new.sink;
        status = code_of c.read-status.result;
        call = record { left = given []; done = rw (named, c.in-Ok-new.ensures) at c.read-status.ensures.done; goes_on = c.read-status.ensures.ends.goes_on; stays = c.read-status.ensures.ends.stays };
        counts = record {
          as_it_should = c.is_told.result;
          tells = tells_along c.is_told.result c.bytes.result.now c.read-status.new.sink.taken c.as_slice-2.result.now (bytes_behind c.args.steps.now) c.bytes.ensures bytes c.is_told.ensures;
          is_code = sym c.if-code-ne0.false ∙ c.code.ensures ∙ c.counted-status.ensures;
        };
      }),
      found_is c.args.steps.now c.blocks_in.result c.sum_of_blocks.result c.blocks_in.ensures
          (c.sum_of_blocks.ensures ∙ ap sum (bytes_are c.args.steps.now c.as_slice-3.result.now (bytes_of_blocks c.as_slice-3.result.now) (c.as_slice-3.ensures.value ∙ c.in-Ok.ensures.blocks) refl)),
    )
