use Rattle.std.proofs.Common.{◌∙◌, ap, length, map, arith}
use Rattle.std.proofs.lemmas.List.{map-id}
use Rattle.std.proofs.lemmas.Simd.{put_chunk_whole}
use Rattle.orc_bits.proofs.lanes.put_whole.Goals as goal

pub returns : goal.returns
returns c = put_chunk_whole c.args.out.now (map (λ x. x) c.args.lanes) (omega (arith, ap length (map-id c.args.lanes), c.fits-lanes.0, c.requires)) ∙ map-id c.args.lanes
