pub mod BytesCrossing
