mod Suiting
mod Filling
mod Heading
mod Writing
