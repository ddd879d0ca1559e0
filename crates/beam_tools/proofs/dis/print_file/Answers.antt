use Rattle.std.proofs.Common.{refl}
use Rattle.beam_model.specs.Prelude.{listing_text}
use Rattle.beam_tools.specs.Prelude.{IsListingTextOf, Contents}
use Rattle.beam_tools.proofs.Left.{dis_left_begun, stops_says, unlisted}
use Rattle.beam_tools.proofs.Stops.{done_more}
use Rattle.beam_tools.proofs.dis.print_file.Goals as goal

pub returns-in-Ok-clause-printed : goal.returns-in-Ok-clause-printed
returns-in-Ok-clause-printed g c =
    done_more c.print_listing.result _ _ (λ h. (listing_text c.in-Ok.listing, (c.in-Ok.listing, c.in-Ok.ensures.listing, refl), h)) c.print_listing.ensures.printed

pub returns-in-Ok-clause-fault : goal.returns-in-Ok-clause-fault
returns-in-Ok-clause-fault g c =
    stops_says (g.F.Files.contents c.args.files.now) c.args.name.now c.print_listing.result c.print_listing.ensures.fault

pub returns-in-Ok-clause-left : goal.returns-in-Ok-clause-left
returns-in-Ok-clause-left g c =
    let files : Contents = g.F.Files.contents c.args.files.now in
    dis_left_begun g.O.Write.contents (IsListingTextOf files c.args.name.now) c.args.name.now c.print_listing.result c.args.output.now c.print_listing.new.output
    (listing_text c.in-Ok.listing) (c.in-Ok.listing, c.in-Ok.ensures.listing, refl) c.print_listing.ensures.fault c.print_listing.ensures.begun

pub returns-in-Err-clause-left : goal.returns-in-Err-clause-left
returns-in-Err-clause-left g c =
    unlisted g.O.Write.contents (IsListingTextOf (g.F.Files.contents c.args.files.now) c.args.name.now) c.in-Err.why c.args.output.now c.in-Err.ensures.unprinted
