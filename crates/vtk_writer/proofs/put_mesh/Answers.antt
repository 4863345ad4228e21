use Rattle.vtk_writer.proofs.Writing.{room_1, room_2, room_3, room_4, mesh_placed}
use Rattle.vtk_writer.proofs.put_mesh.Goals as goal

pub put_points-second-requires : goal.put_points-second-requires
put_points-second-requires c = room_1 _ _ c.requires

pub put_cell_block-third-requires : goal.put_cell_block-third-requires
put_cell_block-third-requires c = room_2 _ _ c.requires c.put_points-second.ensures

pub put_types-last-requires : goal.put_types-last-requires
put_types-last-requires c = room_3 _ _ c.requires c.put_points-second.ensures c.put_cell_block-third.ensures

pub put_numbers-requires : goal.put_numbers-requires
put_numbers-requires c = (room_4 _ _ c.requires c.put_points-second.ensures c.put_cell_block-third.ensures c.put_types-last.ensures, c.requires.fits)

pub returns : goal.returns
returns c = mesh_placed _ _ c.requires c.put_points-second.ensures c.put_cell_block-third.ensures c.put_types-last.ensures c.put_numbers.ensures
