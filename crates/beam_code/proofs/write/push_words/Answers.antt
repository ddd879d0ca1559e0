use Rattle.std.proofs.Common.{ap, option_map}
use Rattle.std.proofs.lemmas.List.{nil_from_length}
use Rattle.std.proofs.lemmas.Result.{err_from_is_err_and}
use Rattle.byteorder.specs.Endian.{big_bytes}
use Rattle.beam_model.specs.Prelude.{word, words_bytes}
use Rattle.beam_code.proofs.Written.{goes_on, stops, finishes}
use Rattle.beam_code.proofs.write.push_words.Goals as goal

pub returns-in_err-push_word : goal.returns-in_err-push_word
unfolding words_bytes
returns-in_err-push_word c =
    let p = err_from_is_err_and c.from_residual.result c.from_residual.ensures.1 in
    rw (p.1, p.2) (stops c.in_err-push_word.field-0.0 c.loop-word.out.items c.args.out.now.items (option_map (λ n. big_bytes 4 n) (word c.in-Some.word.now)) (words_bytes c.in-Some.others.now) (words_bytes c.loop-word.rest.now) (words_bytes c.args.words.now) (ap (words_bytes) c.in-Some.ensures.cases.0) c.in_err-push_word.ensures c.loop-word.invariant)

pub loop-word-preserved : goal.loop-word-preserved
unfolding words_bytes
loop-word-preserved c =
    goes_on c.loop-word.out.items c.push_word.new.out.items c.args.out.now.items (option_map (λ n. big_bytes 4 n) (word c.in-Some.word.now)) (words_bytes c.in-Some.others.now) (words_bytes c.loop-word.rest.now) (words_bytes c.args.words.now) (ap (words_bytes) c.in-Some.ensures.cases.0) c.in_ok-push_word.ensures c.loop-word.invariant

pub returns : goal.returns
unfolding words_bytes
returns c = finishes c.loop-word.out.items c.args.out.now.items (words_bytes c.loop-word.rest.now) (words_bytes c.args.words.now) (ap (words_bytes) (nil_from_length c.loop-word.rest.now c.in_default.ensures.cases)) c.loop-word.invariant
