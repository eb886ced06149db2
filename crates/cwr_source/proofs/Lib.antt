mod Visited
